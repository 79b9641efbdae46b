-- The reckoned routes are the routes, and the only ones. Assumes nothing.
use Rattle.std.proofs.Common.{◌≡◌, ℕ, zero, suc, ◌<◌, ◌≤◌, List, [], length, get_or, Some, None, Option, sym, refl, ◌∙◌, subst, inl, inr, arith, ext_get_or}
use mathlib.Core.Path.{subst⁻¹}
use Rattle.std.proofs.lemmas.Bool.{cases_lt}
use Rattle.std.proofs.lemmas.List.{get_or_past}
use Rattle.std.proofs.lemmas.List.FromFn.{length-map-range_with_len, get_or-map-range_with_len}
use Rattle.metric.specs.Meaning.{Meaning, Cost}
use Rattle.metric.specs.Laws.{Laws}
use Rattle.spf.specs.Maps.{Map, Node, Sound}
use Rattle.spf.specs.Paths.{Path, cost}
use Rattle.spf.specs.Routes.{Distance, Parent, nowhere, IsRoute}
use Rattle.spf.specs.Reckoning.{distances, parent_from, route_from, route_of, tree_of, route_at, no_route}
use Rattle.spf.specs.declared.route.Route.{Route}
use Rattle.spf_laws.specs.Tables.{Table}
use Rattle.spf_laws.proofs.Orders.{AtMost, NoMore, at_most_trans}
use Rattle.spf_laws.proofs.Paths.{path_node, path_is_cost, path_cost_more}
use Rattle.spf_laws.proofs.Visits.{extended}
use Rattle.spf_laws.proofs.Unique.{distance_cost, route_same}
use Rattle.spf_laws.proofs.Parents.{parent_right, hop_right}
use Rattle.spf_laws.proofs.Rounds.{distances_right}

module _ (k : Meaning) (laws : Laws k) (m : Map) (sound : Sound m) (r : ℕ) (root : Node m r) where
  -- a path has a distance that is no more than its cost
  no_farther : (v : ℕ) (o : Option ℕ) → Distance k m r v o → (us : List ℕ) → Path m r v us → NoMore k o (cost k m v us)
  no_farther v None h us p = absurd (h us p)
  no_farther v (Some c) h us p = (c, refl, h.1 us p)

  -- distances are a table that no line improves
  pub distances_table : (d : ℕ → Option ℕ) → ((v : ℕ) → Distance k m r v (d v)) → Table k m r d
  distances_table d right = record {
    begins = no_farther r (d r) (right r) [] refl;
    reached = λ v c e. (gives v c e).0;
    closed = λ u v a j e.
        let da = gives u a e in
        let (us, p, s) = da.0 in
        let (ws, q, l) = extended k laws m sound r root us u v p j in
        let (b, eb, lb) = no_farther v (d v) (right v) ws q in
        let l' = subst (λ (x : ℕ). AtMost k (cost k m v ws) (k.add x (m.figure u v))) s l in
        let more-cost = subst (λ (x : ℕ). Cost k (k.add x (m.figure u v))) s (path_cost_more m sound r root k us u v p j) in
        (b, eb, at_most_trans k laws (distance_cost k laws m sound r root (gives v b eb)) (path_is_cost m sound r root k ws v q) more-cost lb l');
  }
    where
      gives : (v c : ℕ) → d v ≡ Some c → Distance k m r v (Some c)
      gives v c e = subst (Distance k m r v) e (right v)

  -- the routes that distances give
  pub route_from_lem : (d : ℕ → Option ℕ) → ((v : ℕ) → Distance k m r v (d v)) → (v : ℕ) → IsRoute k m r v (route_from k m r d v)
  route_from_lem d right v =
      let table = distances_table d right in
      let parents : (w : ℕ) → Parent k m r w (parent_from k m r d w) = parent_right k laws m sound r root d table in
      record { distance = right v; parent = parents v; hop = hop_right k laws m sound r root d table (parent_from k m r d) parents v }

  pub route_right : (v : ℕ) → IsRoute k m r v (route_of k m r v)
  unfolding route_of
  route_right v = route_from_lem (distances k m r) (distances_right k laws m sound r root) v

  pub route_is : (v : ℕ) (route : Route) → IsRoute k m r v route → route ≡ route_of k m r v
  route_is v route h = route_same k laws m sound r root v route (route_of k m r v) h (route_right v)

  tree_length : length (tree_of k m r) ≡ 64
  unfolding tree_of
  tree_length = length-map-range_with_len (route_of k m r) 1 64

  -- the route in the tree, at each of its places
  pub tree_at_lem : (i : ℕ) → i < 64 → get_or (tree_of k m r) i no_route ≡ route_of k m r (suc i)
  unfolding tree_of
  tree_at_lem i low = get_or-map-range_with_len (route_of k m r) 1 64 i (suc i) no_route low (omega arith)

  pub tree_is : (tree : List Route) → length tree ≡ 64 → ((v : ℕ) → 1 ≤ v → v ≤ 64 → IsRoute k m r v (route_at tree v)) → tree ≡ tree_of k m r
  tree_is tree len right = ext_get_or no_route tree (tree_of k m r) (len ∙ sym tree_length)
      (λ i low. route_is (suc i) (get_or tree i no_route) (right (suc i) (omega arith) (omega arith)) ∙ sym (tree_at_lem i (omega arith)))

  -- a number that is no node's has no route
  no_route_lem : (v : ℕ) → (Node m v → ⊥) → IsRoute k m r v no_route
  no_route_lem v n =
      let lost : (us : List ℕ) → Path m r v us → ⊥ = λ us p. n (path_node m sound r root us v p) in
      record { distance = lost; parent = inr lost; hop = nowhere (inr lost) }

  pub tree_right : (v : ℕ) → IsRoute k m r v (route_at (tree_of k m r) v)
  tree_right zero = no_route_lem 0 (λ nd. absurd (omega arith))
  tree_right (suc i) = elim (cases_lt i 64) [
    | inl low ↦ subst⁻¹ (IsRoute k m r (suc i)) (tree_at_lem i low) (route_right (suc i))
    | inr past ↦ subst⁻¹ (IsRoute k m r (suc i)) (get_or_past (tree_of k m r) i no_route (omega (arith, tree_length))) (no_route_lem (suc i) (λ nd. absurd (omega (arith, sound.small))))
  ]
