-- One turn of the search, over its lists. Assumes nothing.
use Rattle.std.proofs.Common.{◌≡◌, ℕ, ◌+◌, ◌-◌, ◌<◌, ◌≤◌, Bool, true, false, ◌||◌, eqb, List, length, get_or, set, is_some, Some, sym, refl, ap, ◌∙◌, subst, ap₂, inl, inr, add-one, arith, length-set}
use mathlib.Core.Path.{subst⁻¹}
use Rattle.std.proofs.lemmas.Bool.{both_ways, cases_Bool, cases_eq, cases_lt, eq-eqb, ne_eqb, or_left}
use Rattle.metric.specs.Meaning.{Meaning}
use Rattle.metric.specs.Laws.{Laws}
use Rattle.spf.specs.Maps.{Map, Node, Sound}
use Rattle.spf.specs.Routes.{IsRoute}
use Rattle.spf.specs.declared.route.Route.{Route}
use Rattle.spf.specs.Reckoning.{route_at}
use Rattle.spf_laws.specs.Searches.{after_line, Searching, Partial}
use Rattle.spf_laws.proofs.Orders.{AtMost}
use Rattle.spf_laws.proofs.Paths.{path_node}
use Rattle.spf_laws.proofs.Settle.{cost_of}
use Rattle.spf_laws.proofs.Steps.{start, stepped}
use Rattle.spf_laws.proofs.Finish.{found}
use Rattle.spf_tree.specs.declared.search.Search.{Search}
use Rattle.spf_tree.specs.Queues.{reached_by, listed, Nearest, Costs, ChangedOver}
use Rattle.spf_tree.specs.Steps.{hopped, Offered}
use Rattle.spf_tree.proofs.Queue.{queue_few, placed, listed_at, listed_where, listed_same}
use Rattle.spf_tree.proofs.Choice.{some_of}
use Rattle.spf_tree.proofs.Offers.{route_set, route_other}

-- What holds of a search between two turns.
pub record Held (k : Meaning) (m : Map) (r : ℕ) (s : Search) : Type 0 where
  pub searching : Searching k m r (route_at s.routes) (listed s.nodes s.settled)
  pub order : s.settled ≤ s.reached
  pub long : length s.routes ≡ 64

pub held_first : (k : Meaning) (m : Map) (r : ℕ) (s : Search) (table : List Route) → s.routes ≡ table → s.settled ≡ 0 → length table ≡ 64 → Partial k m r (route_at table) → Held k m r s
held_first k m r s table e z long p = record {
  searching = subst⁻¹ (λ (xs : List Route). Searching k m r (route_at xs) (listed s.nodes s.settled)) e
      (start k m r (route_at table) (listed s.nodes s.settled) (λ v. ap (λ (n : ℕ). listed s.nodes n v) z) p);
  order = omega (arith, z);
  long = ap length e ∙ long;
}

module _ (k : Meaning) (laws : Laws k) (m : Map) (sound : Sound m) (r : ℕ) (root : Node m r) (s : Search) (held : Held k m r s) where
  pub costs : Costs k s.routes
  costs v c e = cost_of k laws m sound r root (λ v. (route_at s.routes v).distance) (listed s.nodes s.settled) held.searching.going {v = v} e

  pub node_of : (v c : ℕ) → (route_at s.routes v).distance ≡ Some c → Node m v
  node_of v c e = let (us, p, _) = held.searching.going.reached v c e in path_node m sound r root us v p

  pub node_at : (place : ℕ) → place < s.reached → Node m (get_or s.nodes place 0)
  node_at place h = let (c, e) = some_of (route_at s.routes (get_or s.nodes place 0)).distance (s.queued.known place h) in node_of (get_or s.nodes place 0) c e

  -- where no node waits
  pub finished : s.reached ≤ s.settled → (v : ℕ) → IsRoute k m r v (route_at s.routes v)
  finished h = found k laws m sound r root (route_at s.routes) (listed s.nodes s.settled) held.searching
      (λ w c z e.
      let nw = node_of w c e in
      let (i, l, q) = placed (reached_by s.routes) s.nodes s.reached w s.queued nw.0 (omega (arith, nw.1, sound.small)) (ap is_some e) in
      both_ways (listed s.nodes s.settled w) z (subst (λ (x : ℕ). listed s.nodes s.settled x ≡ true) q (listed_at s.nodes s.settled i (omega arith))))

  -- the nearest node u, at the cost a, is settled: the search is then `mid`, and `after` the offers of its lines
  module _ (place u a : ℕ) (there : place < s.reached) (is : u ≡ get_or s.nodes place 0) (near : Nearest k s.routes s.nodes s.settled s.reached place a)
      (mid : Search) (nodes : ChangedOver s.nodes mid.nodes s.settled place) (one : mid.settled ≡ s.settled + 1) (same : mid.reached ≡ s.reached)
      (routes : mid.routes ≡ set s.routes (u - 1) (hopped r u s.routes)) where
    node : Node m u
    node = subst⁻¹ (Node m) is (node_at place there)

    at_u : route_at mid.routes u ≡ hopped r u s.routes
    at_u = ap (λ (xs : List Route). route_at xs u) routes ∙ route_set s.routes u (hopped r u s.routes) node.0 (omega (arith, node.1, sound.small, held.long))

    elsewhere : (v : ℕ) → (v ≡ u → ⊥) → route_at mid.routes v ≡ route_at s.routes v
    elsewhere v n = ap (λ (xs : List Route). route_at xs v) routes ∙ route_other s.routes u v (hopped r u s.routes) node.0 n

    same_costs : (v : ℕ) → (route_at mid.routes v).distance ≡ (route_at s.routes v).distance
    same_costs v = elim (cases_eq v u) [
      | inl e ↦ subst⁻¹ (λ (x : ℕ). (route_at mid.routes x).distance ≡ (route_at s.routes x).distance) e (ap (λ (x : Route). x.distance) at_u)
      | inr n ↦ ap (λ (x : Route). x.distance) (elsewhere v n)
    ]

    same_parents : (v : ℕ) → (route_at mid.routes v).parent ≡ (route_at s.routes v).parent
    same_parents v = elim (cases_eq v u) [
      | inl e ↦ subst⁻¹ (λ (x : ℕ). (route_at mid.routes x).parent ≡ (route_at s.routes x).parent) e (ap (λ (x : Route). x.parent) at_u)
      | inr n ↦ ap (λ (x : Route). x.parent) (elsewhere v n)
    ]

    module _ (after : Search) (offered : Offered (λ v. after_line k u a (m.figure u v)) mid after) where
      settled_is : after.settled ≡ s.settled + 1
      settled_is = offered.settled ∙ one

      first_places : (i : ℕ) → i < s.settled → get_or after.nodes i 0 ≡ get_or s.nodes i 0
      first_places i h = offered.listed i (omega (arith, same, held.order)) ∙ nodes.2 i (λ e. omega arith) (λ e. omega (arith, near.low))

      u_place : get_or after.nodes s.settled 0 ≡ u
      u_place = offered.listed s.settled (omega (arith, same, near.low, there)) ∙ nodes.0 ∙ sym is

      now_listed : (v : ℕ) → listed after.nodes after.settled v ≡ (eqb u v || listed s.nodes s.settled v)
      now_listed v =
          ap (λ (n : ℕ). listed after.nodes n v) (settled_is ∙ add-one s.settled)
          ∙ ap₂ (λ (x : ℕ) (b : Bool). eqb x v || b) u_place (listed_same s.nodes after.nodes s.settled v first_places)

      fresh : listed s.nodes s.settled u ≡ false
      fresh = elim (cases_Bool (listed s.nodes s.settled u)) [
        | inr z ↦ z
        | inl y ↦
            let (i, h, e) = listed_where s.nodes s.settled u y in
            let p : i ≡ place = s.queued.once i place (omega (arith, held.order)) there (e ∙ is) in
            absurd (omega (arith, near.low))
      ]

      nearest : (w c : ℕ) → listed s.nodes s.settled w ≡ false → (route_at s.routes w).distance ≡ Some c → AtMost k a c
      nearest w c z e =
          let nw = node_of w c e in
          let (i, h, q) = placed (reached_by s.routes) s.nodes s.reached w s.queued nw.0 (omega (arith, nw.1, sound.small)) (ap is_some e) in
          elim (cases_lt i s.settled) [
            | inl l ↦ absurd (both_ways (listed s.nodes s.settled w) z (subst (λ (x : ℕ). listed s.nodes s.settled x ≡ true) q (listed_at s.nodes s.settled i l)))
            | inr l ↦ near.none_nearer i c l h (ap (λ (x : ℕ). (route_at s.routes x).distance) q ∙ e)
          ]

      pub held_next : Held k m r after
      held_next = record {
        searching = stepped k laws m sound r root (route_at s.routes) (route_at mid.routes) (route_at after.routes) (listed s.nodes s.settled) (listed after.nodes after.settled)
            held.searching u a fresh (ap (λ (x : ℕ). (route_at s.routes x).distance) is ∙ near.cost) nearest
            (now_listed u ∙ or_left (eqb u u) (listed s.nodes s.settled u) (eq-eqb u u refl))
            (λ w n. now_listed w ∙ ap (λ (b : Bool). b || listed s.nodes s.settled w) (ne_eqb u w (λ e. n (sym e))))
            same_costs same_parents (λ v n. ap (λ (x : Route). x.hop) (elsewhere v n)) (ap (λ (x : Route). x.hop) at_u) offered.routes;
        order = omega (arith, settled_is, offered.reached, same, near.low, there);
        long = offered.sized ∙ ap length routes ∙ length-set s.routes (u - 1) (hopped r u s.routes) ∙ held.long;
      }

      pub fewer : 64 - after.settled < 64 - s.settled
      fewer = omega (arith, settled_is, near.low, there, queue_few (reached_by s.routes) s.nodes s.reached s.queued)
