use Rattle.std.proofs.Common.{arith}
use Rattle.metric_example.proofs.PricedLaws.{priced_laws, priced_sums}
use Rattle.metric_example.proofs.priced.PricedDelayMetric.laws.Goals as goal

pub returns : goal.returns
returns c = record { laws = priced_laws c.args.self.now.price (omega arith); measures = priced_sums c.args.self.now.price }
