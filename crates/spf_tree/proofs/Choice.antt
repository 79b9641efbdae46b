-- The route to a node, and its cost, where the code reads them. Assumes nothing.
use Rattle.std.proofs.Common.{◌≡◌, ℕ, zero, suc, ◌-◌, ◌≤◌, true, List, get_or, is_some, Some, None, Option, refl, ap, arith}
use Rattle.spf.specs.declared.route.Route.{Route}
use Rattle.spf.specs.Reckoning.{route_at, no_route}

-- the route to a node stands one place before its number
pub route_is : (routes : List Route) (v : ℕ) → 1 ≤ v → get_or routes (v - 1) no_route ≡ route_at routes v
route_is routes zero h = absurd (omega arith)
route_is routes (suc i) h = ap (λ (x : ℕ). get_or routes x no_route) (omega arith)

pub some_of : (o : Option ℕ) → is_some o ≡ true → (c : ℕ) × (o ≡ Some c)
some_of None e = let z : ◌≡◌ {A = ℕ} 0 1 = cc in absurd (omega arith)
some_of (Some c) e = (c, refl)
