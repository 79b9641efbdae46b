-- The steps of a search, one node and one line at a time. Assumes nothing.
use Rattle.std.specs.Prelude.{◌≡◌, ℕ, ◌<◌, ◌≤◌, if◌then◌else◌, List, length, fold, ◌==◌, slice_index}
use Rattle.metric.specs.Meaning.{Meaning}
use Rattle.wire.specs.declared.lines.Line.{Line}
use Rattle.spf.specs.declared.route.Route.{Route}
use Rattle.spf.specs.Reckoning.{route_at}
use Rattle.spf_laws.specs.Searches.{offered, hop_by}
use Rattle.spf_tree.specs.declared.search.Search.{Search}

-- The route to v after the offer of a line that leaves u, which has the cost a.
abbrev pub offered_at : Meaning → ℕ → ℕ → Line → ℕ → Route → Route
offered_at k u a x v route = if v == x.neighbour then offered k u (k.add a x.figure) route else route

-- The route to v after the offers of some lines, one after the other.
abbrev pub offered_all : Meaning → ℕ → ℕ → List Line → ℕ → Route → Route
offered_all k u a lines v route = fold (λ (r : Route) (x : Line). offered_at k u a x v r) route lines

-- The route to u with its next hop.
abbrev pub hopped : ℕ → ℕ → List Route → Route
hopped r u routes =
    record {
      distance = (route_at routes u).distance;
      parent = (route_at routes u).parent;
      hop = hop_by r u (route_at routes u).parent (route_at routes (route_at routes u).parent).hop;
    }

-- A search after a step that offers new routes: every route is as `new` says, and the old places of the list and the settled nodes are as they were.
pub record Offered (new : ℕ → Route → Route) (before after : Search) : Type 0 where
  pub routes : (v : ℕ) → route_at after.routes v ≡ new v (route_at before.routes v)
  pub listed : (i : ℕ) → i < before.reached → slice_index after.nodes i ≡ slice_index before.nodes i
  pub reached : before.reached ≤ after.reached
  pub settled : after.settled ≡ before.settled
  pub sized : length after.routes ≡ length before.routes
