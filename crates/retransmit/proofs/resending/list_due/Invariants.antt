use Rattle.std.proofs.Common.{◌≡◌, ◌++◌, length, drop}
use Rattle.retransmit.proofs.resending.list_due.Given as goal

-- the origins that came are in the list, and behind them it is as it was
abbrev pub invariant-loop-origin : goal.invariant-loop-origin
invariant-loop-origin l =
    (goal.iterator-loop-origin).can_next l.origin-iterator
    × (goal.iterator-loop-origin).is_finite l.origin-iterator
    × (l.list ≡ l.yielded ++ drop (length l.yielded) l.initial.list)
    × (l.listed ≡ length l.yielded)
