use Rattle.metric_example.proofs.Refusal.{is_worst_first, reversed, lawless}
use Rattle.metric_example.proofs.worst_first.worst_first_is_refused.Goals as goal

pub returns : goal.returns
returns c = record { written = is_worst_first; reversed = reversed; lawless = lawless }
