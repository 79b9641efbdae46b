use Rattle.std.proofs.Common.{refl}
use Rattle.spf.specs.Reckoning.{route_of, distances, tree_of}
use Rattle.spf.specs.Changes.{changed_count}
use Rattle.worked.proofs.reckoned_by_hand.Goals as goal

-- Each row is computed.
pub returns : goal.returns
unfolding route_of distances tree_of changed_count
returns c = (refl, (refl, (refl, (refl, (refl, (refl, (refl, (refl, (refl, (refl, (refl, (refl, (refl, (refl, (refl, (refl, (refl, (refl, (refl, tt)))))))))))))))))))
