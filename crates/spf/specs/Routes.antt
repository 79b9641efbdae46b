-- What the route of a root to a node is. Assumes nothing.
use Rattle.std.specs.Prelude.{◌≡◌, ℕ, zero, suc, ◌<◌, ◌≤◌, false, ◌⊎◌, List, Some, None, Option, ◌≢◌}
use Rattle.metric.specs.Meaning.{Meaning}
use Rattle.spf.specs.declared.route.Route.{Route}
use Rattle.spf.specs.Maps.{Map, Joined}
use Rattle.spf.specs.Paths.{Path, cost}

-- The distance of v from r: some path costs it, and none costs less. It is absent where there is no path.
abbrev pub Distance : Meaning → Map → ℕ → ℕ → Option ℕ → Type 0
Distance k m r v None = (us : List ℕ) → Path m r v us → ⊥
Distance k m r v (Some c) = ((us : List ℕ) × Path m r v us × (cost k m v us ≡ c)) × ((us : List ℕ) → Path m r v us → k.less (cost k m v us) c ≡ false)

-- p leads to v: both can be reached, and the distance of p with the figure of its line to v added is the distance of v.
abbrev pub Leads : Meaning → Map → ℕ → ℕ → ℕ → Type 0
Leads k m r p v = (a : ℕ) × (c : ℕ) × Distance k m r p (Some a) × Distance k m r v (Some c) × Joined m p v × (k.add a (m.figure p v) ≡ c)

-- The parent of v is the lowest-numbered node that leads to it; it is 0 for the root and for a node without a path.
abbrev pub Parent : Meaning → Map → ℕ → ℕ → ℕ → Type 0
Parent k m r v zero = (v ≡ r) ⊎ Distance k m r v None
Parent k m r v (suc p) = (v ≢ r) × Leads k m r (suc p) v × ((q : ℕ) → q < suc p → Leads k m r q v → ⊥)

-- The next hop towards v is the node, on the way from v along parents, whose parent is the root; it is 0 where there is no parent.
pub data NextHop (k : Meaning) (m : Map) (r : ℕ) : ℕ → ℕ → Type 0 where
  nowhere : {v : ℕ} → Parent k m r v 0 → NextHop k m r v 0
  there : {v : ℕ} → Parent k m r v r → 1 ≤ r → NextHop k m r v v
  onwards : {v h : ℕ} (p : ℕ) → Parent k m r v p → 1 ≤ p → (p ≢ r) → NextHop k m r p h → NextHop k m r v h

-- This is the route of r to v.
pub record IsRoute (k : Meaning) (m : Map) (r v : ℕ) (route : Route) : Type 0 where
  pub distance : Distance k m r v route.distance
  pub parent : Parent k m r v route.parent
  pub hop : NextHop k m r v route.hop
