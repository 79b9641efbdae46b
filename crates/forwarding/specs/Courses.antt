-- The walk from next hop to next hop. Assumes nothing.
use Rattle.std.specs.Prelude.{ℕ, zero, suc, min, if◌then◌else◌, List, [], ◌∷◌, take, drop, ◌==◌}
use Rattle.spf.specs.declared.route.Route.{Route}
use Rattle.forwarding.specs.declared.walk.End.{End}
use Rattle.forwarding.specs.declared.walk.End.TheVariants.{Arrived, Loop, Lost}
use Rattle.forwarding.specs.declared.walk.Walk.{Walk}

-- The course of a walk: its nodes in order, from the one at which it began, and how it ended.
pub record Course : Type 0 where
  pub nodes : List ℕ
  pub end : End

-- The hops: the nodes without the one at which it began.
abbrev pub hops_of : Course → List ℕ
hops_of course = drop 1 course.nodes

-- It ends at the node a.
abbrev pub ends_at : ℕ → End → Course
ends_at a how = record { nodes = a ∷ []; end = how }

-- It is at the node a, which shows this next hop, 0 for none; the course from there on is known.
abbrev pub on_from : ℕ → ℕ → Course → Course
on_from a zero rest = ends_at a Lost
on_from a (suc h) rest = record { nodes = a ∷ rest.nodes; end = rest.end }

-- The course to d from a, where node x shows the next hop `hop x`, with so many hops left: arrived? a loop, since none is left? lost? Else on to the next hop.
unfoldable pub walk_from : (ℕ → ℕ) → ℕ → ℕ → ℕ → Course
walk_from hop d zero a = ends_at a (if a == d then Arrived else Loop)
walk_from hop d (suc n) a = if a == d then ends_at a Arrived else on_from a (hop a) (walk_from hop d n (hop a))

-- The course from a to d over so many nodes, where node x shows the route `shows x v` to v: as many hops as there are nodes are left, at most 64.
abbrev pub walk : (ℕ → ℕ → Route) → ℕ → ℕ → ℕ → Course
walk shows count a d = walk_from (λ x. (shows x d).hop) d (min count 64) a

-- The course that a value of the type `Walk` holds.
abbrev pub course_of : Walk → Course
course_of held = record { nodes = take (suc held.made) held.nodes; end = held.end }
