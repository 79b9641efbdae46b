use Rattle.std.proofs.Common.{refl, rules}
use Rattle.database.proofs.Kept.{none_heard}
use Rattle.database.proofs.types.Database.new.Goals as goal

pub invariant_of-result : goal.invariant_of-result
invariant_of-result c = record { range = search rules; full = refl; sound = none_heard c.args.count c.fresh.result c.fresh.ensures }
