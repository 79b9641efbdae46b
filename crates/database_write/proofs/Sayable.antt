-- What a sound entry that is in force holds, a report may say.
use Rattle.std.proofs.Common.{◌≡◌, ℕ, ◌≤◌, Bool, true, List, [], ◌∷◌, arith}
use Rattle.std.proofs.lemmas.List.{length-take}
use Rattle.std.proofs.lemmas.Bool.Decides.{nat_tests}
use Rattle.wire.specs.declared.lines.Line.{Line}
use Rattle.wire.specs.Reports.{Lawful, Allowed}
use Rattle.rows.specs.Rows.{lines_in, allowed, figures_fit}
use Rattle.entries.specs.declared.entry.Entry.{Entry}
use Rattle.entries.specs.Entries.{sound_entry}
use Rattle.database_write.specs.Writing.{report_from}

lawful : (count node previous : ℕ) (xs : List Line) → count ≤ 64 → allowed count node previous xs ≡ true → figures_fit xs ≡ true → Lawful node previous xs
lawful count node previous [] few a f = tt
lawful count node previous (x ∷ xs) few a f = (
  grind (arith, nat_tests),
  grind (arith, nat_tests),
  grind (arith, nat_tests),
  grind (arith, nat_tests),
  grind (arith, nat_tests),
  lawful count node x.neighbour xs few (grind (arith, nat_tests)) (grind (arith, nat_tests)),
)

pub sayable : (count origin : ℕ) (retry : Bool) (e : Entry) → count ≤ 64 → 1 ≤ origin → origin ≤ count → 1 ≤ e.age → sound_entry count origin e ≡ true → Allowed (report_from origin retry e)
sayable count origin retry e few low high force sound =
    let size = length-take e.row.used e.row.lines in
    record {
      origin_low = low;
      origin_high = omega arith;
      serial_high = grind (arith, nat_tests);
      age_low = force;
      age_high = grind (arith, nat_tests);
      few = grind (arith, nat_tests);
      lawful = lawful count origin 0 (lines_in e.row) few (grind (arith, nat_tests)) (grind (arith, nat_tests));
    }
