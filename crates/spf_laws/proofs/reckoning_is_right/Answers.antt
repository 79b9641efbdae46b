use Rattle.spf_laws.proofs.Right.{route_right, tree_right}
use Rattle.spf_laws.proofs.reckoning_is_right.Goals as goal

pub returns : goal.returns
returns c k laws m sound r root = record { route = route_right k laws m sound r root; tree = tree_right k laws m sound r root }
