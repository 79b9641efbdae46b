use Rattle.std.proofs.Common.{arith}
use Rattle.metric_example.proofs.FloorLaws.{floor_laws}
use Rattle.metric_example.proofs.floor.FloorMetric.laws.Goals as goal

pub returns : goal.returns
returns g c = floor_laws c.args.self.now.least (omega arith) (g.M.Metric.means c.args.self.now.metric) c.laws.ensures
