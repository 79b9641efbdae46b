-- What a list of trees shows. Assumes nothing.
use Rattle.std.specs.Prelude.{ℕ, zero, suc, List, [], slice_index_or}
use Rattle.spf.specs.declared.route.Route.{Route}
use Rattle.spf.specs.Reckoning.{route_at}

-- The tree of a node in a list of trees, which begins with node 1; a number without a tree has an empty one.
abbrev pub tree_at : List (List Route) → ℕ → List Route
tree_at trees zero = []
tree_at trees (suc i) = slice_index_or trees i []

-- The route to v that the node x shows.
abbrev pub shown_by : List (List Route) → ℕ → ℕ → Route
shown_by trees x v = route_at (tree_at trees x) v
