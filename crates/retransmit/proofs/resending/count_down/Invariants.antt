use Rattle.std.proofs.Common.{◌≡◌}
use Rattle.database.specs.States.{state}
use Rattle.retransmit.specs.Resending.{lowered_for}
use Rattle.retransmit.proofs.Sofar.{Sofar}
use Rattle.retransmit.proofs.resending.count_down.Given as goal

-- the timers that were passed are lowered
abbrev pub invariant-loop-origin : goal.invariant-loop-origin
invariant-loop-origin l = Sofar (λ o t u. u ≡ lowered_for (state l.database) o t) 0 l.initial.timers l.timers l.origin
