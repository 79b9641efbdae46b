use Rattle.forwarding.proofs.Courses.{Along}
use Rattle.forwarding.proofs.hops.forward.Given as goal

abbrev pub invariant-loop-made : goal.invariant-loop-made
invariant-loop-made g l = Along (g.N.NextHops.shows l.network) l.to l.limit l.initial.at l.nodes l.made l.at
