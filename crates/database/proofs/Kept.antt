-- Entries that are rewritten stay sound.
use Rattle.std.proofs.Common.{◌≡◌, ℕ, ◌+◌, ◌%◌, ◌<◌, ◌≤◌, true, List, length, get_or, set, replicate, inl, inr, arith}
use Rattle.std.proofs.lemmas.List.{get_or-set_same, get_or-set_other, get_or-replicate}
use Rattle.std.proofs.lemmas.Bool.{cases_eq}
use Rattle.std.proofs.lemmas.Bool.Decides.{nat_tests}
use Rattle.rows.specs.declared.row.Row.{Row}
use Rattle.rows.specs.Rows.{lines_in, allowed_row, figures_fit}
use Rattle.entries.specs.declared.entry.Entry.{Entry}
use Rattle.entries.specs.Entries.{sound_entry, missing, fresh}

-- Every entry is sound, the entry of node n standing at n - 1.
abbrev pub Sound : ℕ → List Entry → Type 0
Sound count es = (k : ℕ) → k < 64 → sound_entry count (k + 1) (get_or es k missing) ≡ true

-- The entry of a node, rewritten at its place, leaves the database sound.
pub kept_at : (count : ℕ) (es : List Entry) (node i : ℕ) (e : Entry) → i + 1 ≡ node → i < 64 → length es ≡ 64 → sound_entry count node e ≡ true → Sound count es → Sound count (set es i e)
kept_at count es node i e is within n s h k lt =
    elim (cases_eq k i) [
      | inl same ↦ rw (same, get_or-set_same es i e missing (omega arith), is) s
      | inr other ↦ rw (get_or-set_other es i k e missing other) (h k lt)
    ]

-- Nothing was heard of any node.
pub none_heard : (count : ℕ) (e : Entry) → e ≡ fresh → Sound count (replicate 64 e)
none_heard count e is k lt = rw (get_or-replicate 64 k e missing lt, is)

-- What is sound has its serial in range.
pub serial_range : (count node : ℕ) (e : Entry) → sound_entry count node e ≡ true → e.serial ≤ 63
serial_range count node e h = grind (arith, nat_tests)

-- An own report is sound.
pub own_sound : (count node serial : ℕ) (row : Row) → node ≤ count → allowed_row count node row ≡ true → figures_fit (lines_in row) ≡ true → sound_entry count node (record { serial = serial % 64; age = 7; row = row }) ≡ true
own_sound count node serial row w h fit = let s : serial % 64 ≤ 63 = omega arith in grind (arith, nat_tests)
