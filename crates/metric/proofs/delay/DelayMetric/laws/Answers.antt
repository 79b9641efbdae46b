use Rattle.metric.proofs.DelayLaws.{delay_laws, delay_sums}
use Rattle.metric.proofs.delay.DelayMetric.laws.Goals as goal

pub returns : goal.returns
returns c = record { laws = delay_laws; measures = delay_sums }
