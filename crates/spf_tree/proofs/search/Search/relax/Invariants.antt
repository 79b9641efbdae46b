use Rattle.std.proofs.Common.{take}
use Rattle.spf_tree.specs.Steps.{Offered, offered_all}
use Rattle.spf_tree.proofs.search.Search.relax.Given as goal

abbrev pub invariant-loop-line : goal.invariant-loop-line
invariant-loop-line g l = Offered (offered_all (g.M.Metric.means l.metric) l.settled.node l.settled.cost (take l.line-index l.line-items)) l.initial.self l.self
