-- Costs that stand beside the routes. Assumes nothing.
use Rattle.std.proofs.Common.{◌≡◌, ℕ, ◌+◌, ◌-◌, ◌<◌, ◌≤◌, List, length, get_or, set, Some, None, sym, ap, ◌∙◌, add-one, arith, get_or-set_other, get_or-set_same}
use Rattle.std.specs.Option.{unwrap_or}
use Rattle.spf.specs.declared.route.Route.{Route}
use Rattle.spf.specs.Reckoning.{route_at, no_route}
use Rattle.spf_laws.proofs.Options.{none_some}
use Rattle.spf_tree.specs.Queues.{Mirrors}

-- the cost of a route, where it reaches its node
abbrev pub cost_or_0 : Route → ℕ
cost_or_0 route = unwrap_or route.distance 0

-- the same of the first i routes, as a search begins
abbrev pub MirrorsTo : List Route → List ℕ → ℕ → Type 0
MirrorsTo routes costs i = (v c : ℕ) → 1 ≤ v → v ≤ i → (route_at routes v).distance ≡ Some c → get_or costs (v - 1) 0 ≡ c

route_next : (routes : List Route) (i v : ℕ) → v ≡ i + 1 → route_at routes v ≡ get_or routes i no_route
route_next routes i v e = ap (route_at routes) (e ∙ add-one i)

pub mirror_more : (routes : List Route) (costs : List ℕ) (i c : ℕ) → i < length costs → (get_or routes i no_route).distance ≡ Some c → MirrorsTo routes costs i → MirrorsTo routes (set costs i c) (i + 1)
mirror_more routes costs i c inside e old v b low high f = grind (arith, add-one, old v b, get_or-set_same {A = ℕ}, get_or-set_other {A = ℕ})

pub mirror_none : (routes : List Route) (costs : List ℕ) (i : ℕ) → (get_or routes i no_route).distance ≡ None → MirrorsTo routes costs i → MirrorsTo routes costs (i + 1)
mirror_none routes costs i e old v b low high f = grind (arith, add-one, old v b, none_some)

-- routes with the same distances
pub mirror_same : (routes routes' : List Route) (costs : List ℕ) → ((v : ℕ) → (route_at routes' v).distance ≡ (route_at routes v).distance) → Mirrors routes costs → Mirrors routes' costs
mirror_same routes routes' costs same mirror v c low high e = mirror v c low high (sym (same v) ∙ e)

-- a route that is written, and its cost
pub mirror_set : (routes routes' : List Route) (costs : List ℕ) (n : ℕ) (route : Route) → 1 ≤ n → n ≤ length costs → route_at routes' n ≡ route → ((v : ℕ) → (v ≡ n → ⊥) → route_at routes' v ≡ route_at routes v)
    → Mirrors routes costs → Mirrors routes' (set costs (n - 1) (cost_or_0 route))
mirror_set routes routes' costs n route low high here others mirror v c l h e = grind (arith, mirror v c, others v, get_or-set_same {A = ℕ}, get_or-set_other {A = ℕ})
