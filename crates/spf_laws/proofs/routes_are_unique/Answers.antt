use Rattle.spf_laws.proofs.Unique.{route_same}
use Rattle.spf_laws.proofs.routes_are_unique.Goals as goal

pub returns : goal.returns
returns c = route_same
