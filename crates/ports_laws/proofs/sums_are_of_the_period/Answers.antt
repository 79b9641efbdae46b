use Rattle.ports_laws.proofs.Sums.{sums_of_period}
use Rattle.ports_laws.proofs.sums_are_of_the_period.Goals as goal

pub returns : goal.returns
returns c = sums_of_period
