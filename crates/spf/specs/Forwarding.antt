-- Forwarding over one map: each node on the way names the next one. Assumes nothing.
use Rattle.std.specs.Prelude.{◌≡◌, ℕ, ◌<◌, List, [], ◌∷◌, length, ◌≢◌}
use Rattle.metric.specs.Meaning.{Meaning}
use Rattle.spf.specs.declared.route.Route.{Route}
use Rattle.spf.specs.Maps.{Map, Node, Joined}
use Rattle.spf.specs.Routes.{IsRoute}

-- The nodes us, in this order, are the hops from a to the destination d, where node x shows the route `shows x d`. Each hop goes along a line of the map.
abbrev pub Forwards : (ℕ → ℕ → Route) → Map → ℕ → ℕ → List ℕ → Type 0
Forwards shows m d a [] = a ≡ d
Forwards shows m d a (h ∷ us) = (a ≢ d) × ((shows a d).hop ≡ h) × Joined m a h × Forwards shows m d h us

-- The cost of the lines from a along us, added in order to c.
abbrev pub cost_from : Meaning → Map → ℕ → ℕ → List ℕ → ℕ
cost_from k m c a [] = c
cost_from k m c a (h ∷ us) = cost_from k m (k.add c (m.figure a h)) h us

-- Every node shows its routes of one map under one metric.
abbrev pub AllShow : Meaning → Map → (ℕ → ℕ → Route) → Type 0
AllShow k m shows = (x v : ℕ) → Node m x → Node m v → IsRoute k m x v (shows x v)

-- These hops lead from a to d, they are fewer than the nodes, and they cost c.
pub record Arrives (k : Meaning) (m : Map) (shows : ℕ → ℕ → Route) (a d c : ℕ) (us : List ℕ) : Type 0 where
  pub hops : Forwards shows m d a us
  pub few : length us < m.count
  pub costs : cost_from k m k.empty a us ≡ c
