use Rattle.database_order.proofs.Shown.{met}
use Rattle.database_order.proofs.premise_is_met.Goals as goal

pub returns : goal.returns
returns c = met
