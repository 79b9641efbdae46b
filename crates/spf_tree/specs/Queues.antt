-- The list of reached nodes that a search goes by. Assumes nothing.
use Rattle.std.specs.Prelude.{◌≡◌, ℕ, zero, suc, ◌-◌, ◌<◌, ◌≤◌, Bool, true, false, ◌||◌, List, is_some, Some, Option, ◌==◌, ◌≢◌, slice_index}
use Rattle.spf.specs.declared.route.Route.{Route}
use Rattle.spf.specs.Reckoning.{route_at}
use Rattle.metric.specs.Meaning.{Meaning, Cost}
use Rattle.spf_laws.specs.Searches.{passing}

-- The route of a node that is reached at this cost, of which nothing more is known.
abbrev pub alone : ℕ → Route
alone c = record { distance = Some c; parent = 0; hop = 0 }

-- A route reaches its node.
abbrev pub reaches : Route → Bool
reaches route = is_some route.distance

-- v is among the first n of the list.
abbrev pub listed : List ℕ → ℕ → ℕ → Bool
listed nodes zero v = false
listed nodes (suc n) v = slice_index nodes n == v || listed nodes n v

-- The list names exactly the nodes from 1 to 64 that pass, each once, at its first `reached` places.
pub record Queued (passes : ℕ → Bool) (nodes : List ℕ) (reached : ℕ) : Type 0 where
  pub few : reached ≤ passing passes 64
  pub once : (i j : ℕ) → i < reached → j < reached → slice_index nodes i ≡ slice_index nodes j → i ≡ j
  pub low : (i : ℕ) → i < reached → 1 ≤ slice_index nodes i
  pub high : (i : ℕ) → i < reached → slice_index nodes i ≤ 64
  pub known : (i : ℕ) → i < reached → passes (slice_index nodes i) ≡ true
  pub every : (v : ℕ) → 1 ≤ v → v ≤ 64 → passes v ≡ true → listed nodes reached v ≡ true

-- Whether a tree reaches a node.
abbrev pub reached_by : List Route → ℕ → Bool
reached_by routes v = reaches (route_at routes v)

-- The cost of the node at a place of the list.
abbrev pub cost_at : List Route → List ℕ → ℕ → Option ℕ
cost_at routes nodes place = (route_at routes (slice_index nodes place)).distance

-- Of the nodes at the places `from` to below `to`, the one at `best` is nearest, at the cost `least`.
pub record Nearest (k : Meaning) (routes : List Route) (nodes : List ℕ) (from to best least : ℕ) : Type 0 where
  pub low : from ≤ best
  pub high : best < to
  pub cost : cost_at routes nodes best ≡ Some least
  pub none_nearer : (i c : ℕ) → from ≤ i → i < to → cost_at routes nodes i ≡ Some c → k.less c least ≡ false

-- All that is reached is reached at a path cost.
abbrev pub Costs : Meaning → List Route → Type 0
Costs k routes = (v c : ℕ) → (route_at routes v).distance ≡ Some c → Cost k c

-- The costs are those of the routes, for every node that is reached.
abbrev pub Mirrors : List Route → List ℕ → Type 0
Mirrors routes costs = (v c : ℕ) → 1 ≤ v → v ≤ 64 → (route_at routes v).distance ≡ Some c → slice_index costs (v - 1) ≡ c

-- The nodes at two places of the list have changed over, and all others are where they were.
abbrev pub ChangedOver : List ℕ → List ℕ → ℕ → ℕ → Type 0
ChangedOver nodes nodes' a b =
    (slice_index nodes' a ≡ slice_index nodes b) × (slice_index nodes' b ≡ slice_index nodes a) × ((i : ℕ) → (i ≢ a) → (i ≢ b) → slice_index nodes' i ≡ slice_index nodes i)
