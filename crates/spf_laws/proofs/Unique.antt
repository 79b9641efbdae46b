-- A node has one distance, one parent and one next hop, so one route. Assumes nothing.
use Rattle.std.proofs.Common.{◌≡◌, ℕ, zero, suc, ◌≤◌, Some, None, Option, refl, ap, subst, inl, inr, arith}
use Rattle.std.proofs.lemmas.Bool.{cases_order}
use Rattle.metric.specs.Meaning.{Meaning, Cost}
use Rattle.metric.specs.Laws.{Laws}
use Rattle.spf.specs.Maps.{Map, Node, Sound}
use Rattle.spf.specs.Routes.{Distance, Leads, Parent, NextHop, nowhere, there, onwards, IsRoute}
use Rattle.spf.specs.declared.route.Route.{Route}
use Rattle.spf_laws.proofs.Orders.{AtMost, at_most_same}
use Rattle.spf_laws.proofs.Paths.{path_is_cost}

-- a route is its three parts
unfoldable made : Option ℕ → ℕ → ℕ → Route
made distance parent hop = record { distance = distance; parent = parent; hop = hop }

made_same : {x y : Route} → x.distance ≡ y.distance → x.parent ≡ y.parent → x.hop ≡ y.hop → x ≡ y
unfolding made
made_same {x} {y} d t h = let e : made x.distance x.parent x.hop ≡ made y.distance y.parent y.hop = cc in e

module _ (k : Meaning) (laws : Laws k) (m : Map) (sound : Sound m) (r : ℕ) (root : Node m r) where
  pub distance_cost : {v a : ℕ} → Distance k m r v (Some a) → Cost k a
  distance_cost {v} {a} h = subst (λ (x : ℕ). Cost k x) h.0.2 (path_is_cost m sound r root k h.0.0 v h.0.1)

  pub unique : {v a b : ℕ} → Distance k m r v (Some a) → Distance k m r v (Some b) → a ≡ b
  unique {v} {a} {b} x y = at_most_same k laws (distance_cost x) (distance_cost y)
      (subst (λ (z : ℕ). AtMost k a z) y.0.2 (x.1 y.0.0 y.0.1))
      (subst (λ (z : ℕ). AtMost k b z) x.0.2 (y.1 x.0.0 x.0.1))

  pub distance_same : (v : ℕ) (x y : Option ℕ) → Distance k m r v x → Distance k m r v y → x ≡ y
  distance_same v None None p q = refl
  distance_same v None (Some b) p q = absurd (p q.0.0 q.0.1)
  distance_same v (Some a) None p q = absurd (q p.0.0 p.0.1)
  distance_same v (Some a) (Some b) p q = ap (λ (x : ℕ). Some x) (unique p q)

  -- a parent that is there leads to its node
  pub parent_leads : {v : ℕ} (p : ℕ) → Parent k m r v p → 1 ≤ p → Leads k m r p v
  parent_leads zero h some = absurd (omega arith)
  parent_leads (suc p) h some = h.1

  without_parent : {v p : ℕ} → Parent k m r v 0 → Parent k m r v (suc p) → ⊥
  without_parent (inl e) q = q.0 e
  without_parent (inr none) (n, (a, c, da, dc, j, s), low) = none dc.0.0 dc.0.1

  pub parent_same : (v x y : ℕ) → Parent k m r v x → Parent k m r v y → x ≡ y
  parent_same v zero zero p q = refl
  parent_same v zero (suc y) p q = absurd (without_parent p q)
  parent_same v (suc x) zero p q = absurd (without_parent q p)
  parent_same v (suc x) (suc y) p q = elim (cases_order (suc x) (suc y)) [
    | inl e ↦ e
    | inr o ↦ elim o [ inl lt ↦ absurd (q.2 (suc x) lt p.1) | inr gt ↦ absurd (p.2 (suc y) gt q.1) ]
  ]

  pub hop_same : {v x y : ℕ} → NextHop k m r v x → NextHop k m r v y → x ≡ y
  hop_same (nowhere p) (nowhere q) = refl
  hop_same (nowhere {v} p) (there q some) = absurd (omega (arith, parent_same v 0 r p q))
  hop_same (nowhere {v} p) (onwards w q some other on) = absurd (omega (arith, parent_same v 0 w p q))
  hop_same (there {v} p some) (nowhere q) = absurd (omega (arith, parent_same v 0 r q p))
  hop_same (there p some) (there q some') = refl
  hop_same (there {v} p some) (onwards w q some' other on) = absurd (other (parent_same v w r q p))
  hop_same (onwards {v} w p some other on) (nowhere q) = absurd (omega (arith, parent_same v 0 w q p))
  hop_same (onwards {v} w p some other on) (there q some') = absurd (other (parent_same v w r p q))
  hop_same (onwards {v} w p some other on) (onwards {h = i} w' q some' other' on') =
      hop_same on (subst (λ (z : ℕ). NextHop k m r z i) (parent_same v w' w q p) on')

  pub route_same : (v : ℕ) (x y : Route) → IsRoute k m r v x → IsRoute k m r v y → x ≡ y
  route_same v x y p q =
      let d = distance_same v x.distance y.distance p.distance q.distance in
      let t = parent_same v x.parent y.parent p.parent q.parent in
      let h = hop_same p.hop q.hop in
      made_same d t h
