use Rattle.metric.proofs.FewestLinesLaws.{fewest_lines_laws, fewest_lines_first}
use Rattle.metric.proofs.fewest_lines.FewestLinesMetric.laws.Goals as goal

pub returns : goal.returns
returns c = record { laws = fewest_lines_laws; measures = fewest_lines_first }
