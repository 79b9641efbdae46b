use Rattle.std.proofs.Common.{◌≡◌, [], get_or, set}
use Rattle.retransmit.specs.Timers.{armed_on}
use Rattle.retransmit.proofs.Sofar.{Sofar}
use Rattle.retransmit.proofs.timers.Timers.flood.Given as goal

-- the timers of the slots that were passed are armed
abbrev pub invariant-loop-slot : goal.invariant-loop-slot
invariant-loop-slot l =
    Sofar (λ slot old new. new ≡ set old l.place (armed_on l.slots l.arrival slot (get_or old l.place 0))) [] l.initial.timers-items l.timers-items l.slot
