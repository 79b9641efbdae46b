-- The tree, as it can be reckoned. That these are the routes is proved for every metric that keeps the laws. Assumes nothing.
use Rattle.std.specs.Prelude.{ℕ, zero, suc, Bool, false, if◌then◌else◌, List, map, Some, None, Option, ◌==◌, slice_index_or}
use Rattle.std.specs.List.{range_with_len}
use Rattle.metric.specs.Meaning.{Meaning}
use Rattle.spf.specs.declared.route.Route.{Route}
use Rattle.spf.specs.Maps.{Map}

-- The lesser of two costs; one that is there is less than one that is absent.
abbrev pub lesser : Meaning → Option ℕ → Option ℕ → Option ℕ
lesser k None b = b
lesser k (Some a) None = Some a
lesser k (Some a) (Some b) = if k.less b a then Some b else Some a

-- What a line of this figure, 0 for no line, brings from a node at this cost.
abbrev pub brought : Meaning → ℕ → Option ℕ → Option ℕ
brought k zero a = None
brought k (suc f) None = None
brought k (suc f) (Some a) = Some (k.add a (suc f))

-- The least of the cost of v and of what the lines from the nodes 1 to n bring to it.
abbrev pub least_to : Meaning → Map → (ℕ → Option ℕ) → ℕ → ℕ → Option ℕ
least_to k m costs v zero = costs v
least_to k m costs v (suc n) = lesser k (least_to k m costs v n) (brought k (m.figure (suc n) v) (costs (suc n)))

-- The cost of a node in a list of costs, which begins with node 1.
abbrev pub cost_at : List (Option ℕ) → ℕ → Option ℕ
cost_at costs zero = None
cost_at costs (suc i) = slice_index_or costs i None

-- The costs after one line more.
abbrev pub round : Meaning → Map → List (Option ℕ) → List (Option ℕ)
round k m costs = map (λ v. least_to k m (cost_at costs) v m.count) (range_with_len 1 m.count)

-- The least costs over at most so many lines: over none, only the root is reached.
abbrev pub costs_within : Meaning → Map → ℕ → ℕ → List (Option ℕ)
costs_within k m r zero = map (λ v. if v == r then Some k.empty else None) (range_with_len 1 m.count)
costs_within k m r (suc n) = round k m (costs_within k m r n)

-- The distances: no path has as many lines as there are nodes.
unfoldable pub distances : Meaning → Map → ℕ → ℕ → Option ℕ
distances k m r = cost_at (costs_within k m r m.count)

-- Whether a node at the distance a leads, by a line of this figure, 0 for no line, to a node at the distance c.
abbrev pub leads_to : Meaning → ℕ → Option ℕ → Option ℕ → Bool
leads_to k zero a c = false
leads_to k (suc f) None c = false
leads_to k (suc f) (Some a) None = false
leads_to k (suc f) (Some a) (Some c) = k.add a (suc f) == c

-- x, or y where x is 0.
abbrev pub or_else : ℕ → ℕ → ℕ
or_else zero y = y
or_else (suc x) y = suc x

-- The lowest number from 1 to n that passes, 0 where none does.
abbrev pub lowest : (ℕ → Bool) → ℕ → ℕ
lowest passes zero = 0
lowest passes (suc n) = or_else (lowest passes n) (if passes (suc n) then suc n else 0)

-- The parent of v, from the distances d.
abbrev pub parent_from : Meaning → Map → ℕ → (ℕ → Option ℕ) → ℕ → ℕ
parent_from k m r d v = if v == r then 0 else lowest (λ p. leads_to k (m.figure p v) (d p) (d v)) m.count

-- The node whose parent is the root, on the way from v along parents, in at most n steps; 0 where the way ends before.
abbrev pub along : (ℕ → ℕ) → ℕ → ℕ → ℕ → ℕ
along parent r zero v = 0
along parent r (suc n) v = if parent v == r then v else along parent r n (parent v)

-- The route to v, from the distances d.
abbrev pub route_from : Meaning → Map → ℕ → (ℕ → Option ℕ) → ℕ → Route
route_from k m r d v =
    record {
      distance = d v;
      parent = parent_from k m r d v;
      hop = along (parent_from k m r d) r m.count v;
    }

-- The route of r to v.
unfoldable pub route_of : Meaning → Map → ℕ → ℕ → Route
route_of k m r v = route_from k m r (distances k m r) v

-- The tree of r: its routes to the nodes 1 to 64.
unfoldable pub tree_of : Meaning → Map → ℕ → List Route
tree_of k m r = map (route_of k m r) (range_with_len 1 64)

-- The route where nothing is known.
abbrev pub no_route : Route
no_route = record { distance = None; parent = 0; hop = 0 }

-- The route to v in a tree; there is none for a number that is no node's.
abbrev pub route_at : List Route → ℕ → Route
route_at tree zero = no_route
route_at tree (suc i) = slice_index_or tree i no_route
