use Rattle.database_order.proofs.Ends.{order_free}
use Rattle.database_order.proofs.order_does_not_matter.Goals as goal

pub returns : goal.returns
returns c = order_free
