-- The first neighbour that is not within the count.
use Rattle.std.proofs.Common.{◌≡◌, ℕ, ◌+◌, ◌*◌, ◌≤◌, Bool, nat_lt, nat_le, List, [], ◌∷◌, Some, None, Option, Ok, Err, Result, refl, sym, ap, ◌∙◌, inl, inr, arith}
use Rattle.std.proofs.lemmas.Bool.{cases_lt, lt-ltb, le-ltb, le-leb, lt-leb, cond-true}
use Rattle.std.proofs.lemmas.Iterator.Adapters.{position_from-zero}
use Rattle.std.specs.List.{position, position_from}
use Rattle.wire.specs.declared.lines.Line.{Line}
use Rattle.wire.specs.Reports.{Content}
use Rattle.entries.specs.declared.verdicts.TakeFault.{TakeFault}
use Rattle.entries.specs.declared.verdicts.TakeFault.TheVariants as fault
use Rattle.database.specs.Taking.{lines_within, within}

-- Its neighbour is not within the count.
abbrev pub beyond : ℕ → Line → Bool
beyond count x = nat_lt count x.neighbour

-- What is answered, by the line that decides.
abbrev pub decided : Option ℕ → Result (Unit {0}) TakeFault
decided None = Ok tt
decided (Some i) = Err (fault.Neighbour (15 + 3 * i))

pub first_decides : (count i : ℕ) (xs : List Line) → lines_within count (15 + 3 * i) xs ≡ decided (position_from (beyond count) i xs)
first_decides count i [] = refl
first_decides count i (x ∷ xs) =
    elim (cases_lt count x.neighbour) [
      | inl far ↦ rw (lt-ltb count x.neighbour far, lt-leb x.neighbour count far) refl
      | inr near ↦
          let next : 15 + 3 * i + 3 ≡ 15 + 3 * (i + 1) = omega arith in
          rw (le-ltb count x.neighbour near, le-leb x.neighbour count near, next) (first_decides count (i + 1) xs)
    ]

-- What the first line beyond the count answers, where the origin is within it.
pub answered : (count : ℕ) (q : Content) (r : Option ℕ) → q.header.origin ≤ count → r ≡ position (beyond count) q.lines → decided r ≡ within count q
answered count q r near found =
    let first : lines_within count 15 q.lines ≡ decided (position_from (beyond count) 0 q.lines) = first_decides count 0 q.lines in
    ap decided (found ∙ position_from-zero (beyond count) q.lines) ∙ sym first ∙ sym (cond-true (nat_le q.header.origin count) (lines_within count 15 q.lines) (Err fault.Origin) (le-leb q.header.origin count near))
