-- How many routes differ between two trees. Assumes nothing.
use Rattle.std.specs.Prelude.{◌≡◌, ℕ, Bool, not, ◌&&◌, List, Decides, count_by, Option, ◌==◌}
use Rattle.std.specs.List.{range_with_len}
use Rattle.std.specs.Option.{option_eq}
use Rattle.spf.specs.declared.route.Route.{Route}
use Rattle.spf.specs.Reckoning.{route_at}

-- Two distances are the same: both absent, or the same number.
abbrev pub same_distance : Option ℕ → Option ℕ → Bool
same_distance = option_eq (λ a b. a == b)

-- Two routes are the same: distance, parent and next hop.
abbrev pub same_route : Route → Route → Bool
same_route x y = same_distance x.distance y.distance && (x.parent == y.parent && x.hop == y.hop)

-- The number of nodes, among 1 to 64, whose routes are not the same in the two trees.
unfoldable pub changed_count : List Route → List Route → ℕ
changed_count before after = count_by (λ v. not (same_route (route_at before v) (route_at after v))) (range_with_len 1 64)

-- The law of the count n: by whatever test one finds out whether the routes to a node are equal, n is the number of nodes for which it says no.
unfoldable pub CountsChanges : List Route → List Route → ℕ → Type 0
CountsChanges before after n =
    (equal : ℕ → Bool) → ((v : ℕ) → Decides (equal v) (route_at before v ≡ route_at after v)) → n ≡ count_by (λ v. not (equal v)) (range_with_len 1 64)
