use Rattle.std.proofs.Common.{◌≡◌, ℕ, ◌<◌, ◌≤◌, length, get_or}
use Rattle.entries.specs.Entries.{aged, missing}
use Rattle.database.proofs.ageing.age_each.Given as goal

-- the entries that were passed are aged, and the others are as they were
abbrev pub invariant-loop-entry : goal.invariant-loop-entry
invariant-loop-entry l =
    (length l.entries ≡ 64)
    × ((k : ℕ) → k < l.entry-index → get_or l.entries k missing ≡ aged (get_or l.initial.entries k missing))
    × ((k : ℕ) → l.entry-index ≤ k → get_or l.entries k missing ≡ get_or l.initial.entries k missing)
