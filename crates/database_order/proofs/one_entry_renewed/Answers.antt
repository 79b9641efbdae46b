use Rattle.database_order.proofs.Steps.{renewal}
use Rattle.database_order.proofs.one_entry_renewed.Goals as goal

pub returns : goal.returns
returns c = renewal
