use Rattle.std.proofs.Common.{◌≡◌}
use Rattle.database.specs.Taking.{row_with}
use Rattle.database.proofs.taking.Heard.row.Given as goal

-- the lines that came are in the row
abbrev pub invariant-loop-line : goal.invariant-loop-line
invariant-loop-line l =
    (goal.iterator-loop-line).can_next l.line-iterator
    × (goal.iterator-loop-line).is_finite l.line-iterator
    × (l.row ≡ row_with l.yielded)
