use Rattle.spf_tree.specs.Queues.{Nearest}
use Rattle.spf_tree.proofs.search.Search.nearest.Given as goal

abbrev pub invariant-loop-place : goal.invariant-loop-place
invariant-loop-place g l = Nearest (g.M.Metric.means l.metric) l.self.routes l.self.nodes l.self.settled l.place l.best l.least
