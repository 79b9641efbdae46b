-- What the call for a tree answers. Assumes nothing.
use Rattle.std.specs.Prelude.{ℕ, if◌then◌else◌, ◌&&◌, List, Some, None, Option, nat_le}
use Rattle.metric.specs.Meaning.{Meaning}
use Rattle.spf.specs.Maps.{Map}
use Rattle.spf.specs.Reckoning.{tree_of, route_at}
use Rattle.spf.specs.Routes.{IsRoute}
use Rattle.spf.specs.declared.route.Route.{Route}

-- The tree of r, where r is a node of the map.
abbrev pub tree_answer : Meaning → Map → ℕ → Option (List Route)
tree_answer k m r = if nat_le 1 r && nat_le r m.count then Some (tree_of k m r) else None

-- The tree has the route of r to every number: its distance is the least cost of all paths, or absent without one, and parent and next hop are as defined.
abbrev pub AllRoutes : Meaning → Map → ℕ → List Route → Type 0
AllRoutes k m r tree = (v : ℕ) → IsRoute k m r v (route_at tree v)
