use Rattle.std.proofs.Common.{◌-◌}
use Rattle.spf.specs.Model.{map_of}
use Rattle.spf_tree.proofs.Turn.{Held}
use Rattle.spf_tree.proofs.tree.search.Given as goal

abbrev pub invariant-loop-place : goal.invariant-loop-place
invariant-loop-place g l = Held (g.M.Metric.means l.metric) (map_of l.map) l.root l.search

abbrev pub decreases-loop-place : goal.decreases-loop-place
decreases-loop-place g l = 64 - l.search.settled
