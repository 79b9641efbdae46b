-- What a search for the shortest paths keeps. Assumes nothing.
use Rattle.std.specs.Prelude.{◌≡◌, ℕ, zero, suc, ◌+◌, ◌<◌, ◌≤◌, min, Bool, true, false, if◌then◌else◌, ◌&&◌, List, Some, None, Option, ◌==◌}
use Rattle.metric.specs.Meaning.{Meaning}
use Rattle.spf.specs.declared.route.Route.{Route}
use Rattle.spf.specs.Maps.{Map, Joined}
use Rattle.spf.specs.Paths.{Path, cost}
use Rattle.spf.specs.Reckoning.{leads_to}

-- The costs t so far, where the nodes of s are settled: the root has at most the empty cost, every cost is that of a path, every line that leaves a settled node
-- has been looked at, and no node that waits is nearer than a settled one.
pub record Going (k : Meaning) (m : Map) (r : ℕ) (t : ℕ → Option ℕ) (s : ℕ → Bool) : Type 0 where
  pub begins : (b : ℕ) × (t r ≡ Some b) × (k.less k.empty b ≡ false)
  pub reached : (v c : ℕ) → t v ≡ Some c → (us : List ℕ) × Path m r v us × (cost k m v us ≡ c)
  pub known : (u : ℕ) → s u ≡ true → (a : ℕ) × (t u ≡ Some a)
  pub closed : (u v a : ℕ) → s u ≡ true → Joined m u v → t u ≡ Some a → (b : ℕ) × (t v ≡ Some b) × (k.less (k.add a (m.figure u v)) b ≡ false)
  pub ahead : (u w a c : ℕ) → s u ≡ true → s w ≡ false → t u ≡ Some a → t w ≡ Some c → k.less c a ≡ false

-- How many numbers from 1 to n pass.
unfoldable pub passing : (ℕ → Bool) → ℕ → ℕ
passing passes zero = 0
passing passes (suc n) = (if passes (suc n) then 1 else 0) + passing passes n

-- x is the lowest number from 1 to n that passes, 0 where none does.
abbrev pub Lowest : (ℕ → Bool) → ℕ → ℕ → Type 0
Lowest passes n zero = (q : ℕ) → 1 ≤ q → q ≤ n → passes q ≡ false
Lowest passes n (suc p) = (suc p ≤ n) × (passes (suc p) ≡ true) × ((q : ℕ) → 1 ≤ q → q < suc p → passes q ≡ false)

-- w is settled, and its cost with the figure of its line to v added is the cost of v.
abbrev pub offers : Meaning → Map → (ℕ → Option ℕ) → (ℕ → Bool) → ℕ → ℕ → Bool
offers k m t s v w = s w && leads_to k (m.figure w v) (t w) (t v)

-- The lower of two parents, where 0 is none.
abbrev pub lower_of : ℕ → ℕ → ℕ
lower_of zero u = u
lower_of (suc p) u = min (suc p) u

-- A route at the cost o after the offer of a cost by u: a lesser cost is taken with u as the parent, at the same cost the lower parent is, and a greater one changes nothing.
abbrev pub compared : Meaning → ℕ → ℕ → Route → Option ℕ → Route
compared k u c route None = record { distance = Some c; parent = u; hop = route.hop }
compared k u c route (Some b) =
    if k.less c b then record { distance = Some c; parent = u; hop = route.hop }
    else (if c == b then record { distance = route.distance; parent = lower_of route.parent u; hop = route.hop } else route)

-- A route after the offer of a cost by u.
abbrev pub offered : Meaning → ℕ → ℕ → Route → Route
offered k u c route = compared k u c route route.distance

-- A route after the offer of a line of this figure, 0 for no line, from u at the cost a.
abbrev pub after_line : Meaning → ℕ → ℕ → ℕ → Route → Route
after_line k u a zero route = route
after_line k u a (suc f) route = offered k u (k.add a (suc f)) route

-- The next hop of v, from its parent p and the next hop of that.
abbrev pub hop_by : ℕ → ℕ → ℕ → ℕ → ℕ
hop_by r v p h = if p == 0 then 0 else (if p == r then v else h)

-- A settled node has its next hop by its parent, and a node that waits has none yet.
abbrev pub HopsSo : ℕ → (ℕ → Route) → (ℕ → Bool) → ℕ → Type 0
HopsSo r routes s v = (routes v).hop ≡ (if s v then hop_by r v (routes v).parent (routes (routes v).parent).hop else 0)

-- What a search keeps of its routes, where the nodes of s are settled: the costs as said above, the lowest parent among the settled nodes, and the next hops of these.
pub record Searching (k : Meaning) (m : Map) (r : ℕ) (routes : ℕ → Route) (s : ℕ → Bool) : Type 0 where
  pub going : Going k m r (λ v. (routes v).distance) s
  pub chosen : (v : ℕ) → Lowest (offers k m (λ w. (routes w).distance) s v) m.count (routes v).parent
  pub hops : (v : ℕ) → HopsSo r routes s v

-- A table that a search can begin from: the root has at most the empty cost, every cost is that of a path, and no node has a parent or a next hop yet.
pub record Partial (k : Meaning) (m : Map) (r : ℕ) (routes : ℕ → Route) : Type 0 where
  pub begins : (b : ℕ) × ((routes r).distance ≡ Some b) × (k.less k.empty b ≡ false)
  pub reached : (v c : ℕ) → (routes v).distance ≡ Some c → (us : List ℕ) × Path m r v us × (cost k m v us ≡ c)
  pub parents : (v : ℕ) → (routes v).parent ≡ 0
  pub hops : (v : ℕ) → (routes v).hop ≡ 0
