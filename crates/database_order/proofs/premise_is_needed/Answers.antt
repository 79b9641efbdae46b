use Rattle.database_order.proofs.Shown.{needed}
use Rattle.database_order.proofs.premise_is_needed.Goals as goal

pub returns : goal.returns
returns c = needed
