-- What holds of a walk, whatever the nodes show. Assumes nothing.
use Rattle.std.specs.Prelude.{◌≡◌, ℕ, ◌-◌, ◌≤◌, min, List, [], ◌∷◌, length, ◌≢◌}
use Rattle.spf.specs.declared.route.Route.{Route}
use Rattle.forwarding.specs.declared.walk.End.{End}
use Rattle.forwarding.specs.declared.walk.End.TheVariants.{Arrived, Loop, Lost}
use Rattle.forwarding.specs.Courses.{Course, hops_of}

-- The nodes us are hops from a towards d: each is the next hop that the node before it shows, and none is made from d.
abbrev pub Hops : (ℕ → ℕ) → ℕ → ℕ → List ℕ → Type 0
Hops hop d a [] = Unit {0}
Hops hop d a (h ∷ us) = (a ≢ d) × (hop a ≡ h) × (1 ≤ h) × Hops hop d h us

-- The node to which hops from a lead.
abbrev pub last_of : ℕ → List ℕ → ℕ
last_of a [] = a
last_of a (h ∷ us) = last_of h us

-- What the end says of the last node a, with so many hops left.
abbrev pub Ends : (ℕ → ℕ) → ℕ → ℕ → ℕ → End → Type 0
-- It is d.
Ends hop d a left Arrived = a ≡ d
-- It is another, and no hop is left.
Ends hop d a left Loop = (a ≢ d) × (left ≡ 0)
-- It is another, hops are left, and it shows no next hop.
Ends hop d a left Lost = (a ≢ d) × (1 ≤ left) × (hop a ≡ 0)

-- A course begins at a and goes by at most so many hops towards d, and its end says why it went no further.
pub record Goes (hop : ℕ → ℕ) (d limit a : ℕ) (course : Course) : Type 0 where
  pub begins : course.nodes ≡ a ∷ hops_of course
  pub hops : Hops hop d a (hops_of course)
  pub few : length (hops_of course) ≤ limit
  pub ends : Ends hop d (last_of a (hops_of course)) (limit - length (hops_of course)) course.end

-- The same of nodes that show routes: at most as many hops as there are nodes, and at most 64.
abbrev pub Going : (ℕ → ℕ → Route) → ℕ → ℕ → ℕ → Course → Type 0
Going shows count a d course = Goes (λ x. (shows x d).hop) d (min count 64) a course
