-- The offers of the nearest node keep the lowest parents and the next hops. Assumes nothing.
use Rattle.std.proofs.Common.{◌≡◌, ℕ, zero, suc, ◌<◌, ◌≤◌, Bool, true, false, cond, ◌&&◌, eqb, ◌⊎◌, Some, None, Option, sym, refl, ap, ◌∙◌, subst, ap₂, inl, inr, arith}
use mathlib.Core.Path.{subst⁻¹}
use Rattle.std.proofs.lemmas.Bool.{both_ways, cases_Bool, cases_eq, cases_lt, and_left, and_parts, eqb-true, eqb-false, eq-eqb, ne_eqb}
use Rattle.metric.specs.Meaning.{Meaning}
use Rattle.metric.specs.Laws.{Laws}
use Rattle.spf.specs.Maps.{Map, Node, Sound}
use Rattle.spf.specs.Reckoning.{lesser, brought, leads_to}
use Rattle.spf.specs.declared.route.Route.{Route}
use Rattle.spf_laws.specs.Searches.{Going, Lowest, offers, lower_of, compared, after_line}
use Rattle.spf_laws.proofs.Orders.{AtMost}
use Rattle.spf_laws.proofs.Options.{some_same, none_some}
use Rattle.spf_laws.proofs.Lowest.{lowest_same, lowest_at, lowest_more}
use Rattle.spf_laws.proofs.Parents.{passes}
use Rattle.spf_laws.proofs.Settle.{cost_of, step, kept, above}

-- What is left of a route at the cost o after the offer of the cost c by u.
abbrev View : Meaning → ℕ → ℕ → Route → Option ℕ → Route → Type 0
View k u c route o route' =
    ((route'.distance ≡ Some c) × (route'.parent ≡ u) × ((b : ℕ) → o ≡ Some b → k.less c b ≡ true))
    ⊎ (((route'.distance ≡ route.distance) × (o ≡ Some c) × (route'.parent ≡ lower_of route.parent u))
    ⊎ ((route' ≡ route) × ((b : ℕ) × (o ≡ Some b) × (c ≡ b → ⊥))))

view_some : (k : Meaning) (u c b : ℕ) (route : Route) (x y : Bool) → k.less c b ≡ x → eqb c b ≡ y
    → View k u c route (Some b) (cond x (record { distance = Some c; parent = u; hop = route.hop }) (cond y (record { distance = route.distance; parent = lower_of route.parent u; hop = route.hop }) route))
view_some k u c b route true y ex ey = inl (refl, refl, λ d q. subst (λ (z : ℕ). k.less c z ≡ true) (some_same refl q) ex)
view_some k u c b route false true ex ey = inr (inl (refl, ap (λ (z : ℕ). Some z) (sym (eqb-true c b ey)), refl))
view_some k u c b route false false ex ey = inr (inr (refl, (b, refl, eqb-false c b ey)))

view : (k : Meaning) (u c : ℕ) (route : Route) (o : Option ℕ) → View k u c route o (compared k u c route o)
view k u c route None = inl (refl, refl, λ b q. absurd (none_some refl q))
view k u c route (Some b) = view_some k u c b route (k.less c b) (eqb c b) refl refl

-- an offer leaves the next hop
cond_hop : (x y : Bool) (a b c : Route) (h : ℕ) → a.hop ≡ h → b.hop ≡ h → c.hop ≡ h → (cond x a (cond y b c)).hop ≡ h
cond_hop true y a b c h p q s = p
cond_hop false true a b c h p q s = q
cond_hop false false a b c h p q s = s

compared_hop : (k : Meaning) (u c : ℕ) (route : Route) (o : Option ℕ) → (compared k u c route o).hop ≡ route.hop
compared_hop k u c route None = refl
compared_hop k u c route (Some b) =
    cond_hop (k.less c b) (eqb c b) (record { distance = Some c; parent = u; hop = route.hop }) (record { distance = route.distance; parent = lower_of route.parent u; hop = route.hop }) route route.hop refl refl refl

pub after_hop : (k : Meaning) (u a f : ℕ) (route : Route) → (after_line k u a f route).hop ≡ route.hop
after_hop k u a zero route = refl
after_hop k u a (suc f) route = compared_hop k u (k.add a (suc f)) route route.distance

-- its cost is the lesser one
cond_cost : (x y : Bool) (c b : ℕ) (p q h : ℕ) (route : Route) → route.distance ≡ Some b
    → (cond x (record { distance = Some c; parent = p; hop = h }) (cond y (record { distance = route.distance; parent = q; hop = h }) route)).distance ≡ cond x (Some c) (Some b)
cond_cost true y c b p q h route e = refl
cond_cost false true c b p q h route e = e
cond_cost false false c b p q h route e = e

compared_cost : (k : Meaning) (u c : ℕ) (route : Route) (o : Option ℕ) → route.distance ≡ o → (compared k u c route o).distance ≡ lesser k o (Some c)
compared_cost k u c route None e = refl
compared_cost k u c route (Some b) e = cond_cost (k.less c b) (eqb c b) c b u (lower_of route.parent u) route.hop route e

lesser_none : (k : Meaning) (o : Option ℕ) → o ≡ lesser k o None
lesser_none k None = refl
lesser_none k (Some b) = refl

after_cost : (k : Meaning) (u a f : ℕ) (route : Route) → (after_line k u a f route).distance ≡ lesser k route.distance (brought k f (Some a))
after_cost k u a zero route = lesser_none k route.distance
after_cost k u a (suc f) route = compared_cost k u (k.add a (suc f)) route route.distance refl

after_some : (k : Meaning) (u a f : ℕ) (route : Route) → 1 ≤ f → after_line k u a f route ≡ compared k u (k.add a f) route route.distance
after_some k u a zero route h = absurd (omega arith)
after_some k u a (suc f) route h = refl

after_none : (k : Meaning) (u a f : ℕ) (route : Route) → f < 1 → after_line k u a f route ≡ route
after_none k u a zero route h = refl
after_none k u a (suc f) route h = absurd (omega arith)

leads_some : (k : Meaning) (f a c : ℕ) → 1 ≤ f → leads_to k f (Some a) (Some c) ≡ eqb (k.add a f) c
leads_some k zero a c h = absurd (omega arith)
leads_some k (suc f) a c h = refl

leads_none : (k : Meaning) (f : ℕ) (o w : Option ℕ) → f < 1 → leads_to k f o w ≡ false
leads_none k zero o w h = refl
leads_none k (suc f) o w h = absurd (omega arith)

-- The nearest node u, at the cost a, is settled, and its lines are offered.
module _ (k : Meaning) (laws : Laws k) (m : Map) (sound : Sound m) (r : ℕ) (root : Node m r)
    (R R' : ℕ → Route) (s s' : ℕ → Bool) (going : Going k m r (λ v. (R v).distance) s) (u a : ℕ) (fresh : s u ≡ false) (here : (R u).distance ≡ Some a)
    (nearest : (w c : ℕ) → s w ≡ false → (R w).distance ≡ Some c → AtMost k a c) (done : s' u ≡ true) (others : (w : ℕ) → (w ≡ u → ⊥) → s' w ≡ s w)
    (changed : (v : ℕ) → R' v ≡ after_line k u a (m.figure u v) (R v)) where
  moved : (v : ℕ) → (R' v).distance ≡ lesser k (R v).distance (brought k (m.figure u v) (Some a))
  moved v = ap (λ (x : Route). x.distance) (changed v) ∙ after_cost k u a (m.figure u v) (R v)

  pub going' : Going k m r (λ v. (R' v).distance) s'
  going' = step k laws m sound r root (λ v. (R v).distance) (λ v. (R' v).distance) s s' going u a fresh here nearest done others moved

  costs_kept : (v : ℕ) → s' v ≡ true → (R' v).distance ≡ (R v).distance
  costs_kept = kept k laws m sound r root (λ v. (R v).distance) (λ v. (R' v).distance) s s' going u a fresh here nearest done others moved

  seen : (v : ℕ) → 1 ≤ m.figure u v → View k u (k.add a (m.figure u v)) (R v) (R v).distance (R' v)
  seen v j = subst⁻¹ (View k u (k.add a (m.figure u v)) (R v) (R v).distance) (changed v ∙ after_some k u a (m.figure u v) (R v) j) (view k u (k.add a (m.figure u v)) (R v) (R v).distance)

  unseen : (v : ℕ) → m.figure u v < 1 → R' v ≡ R v
  unseen v z = changed v ∙ after_none k u a (m.figure u v) (R v) z

  -- a settled node keeps its route
  pub route_kept : (v : ℕ) → s' v ≡ true → R' v ≡ R v
  route_kept v e = elim (cases_lt (m.figure u v) 1) [
    | inl z ↦ unseen v z
    | inr j ↦
        let (b, eb, l) = above k laws m sound r root (λ v. (R v).distance) (λ v. (R' v).distance) s s' going u a fresh here nearest done others moved v e j in
        let cb = cost_of k laws m sound r root (λ v. (R v).distance) s going {v = v} eb in
        elim (seen v j) [
          | inl x ↦
              let q : k.add a (m.figure u v) ≡ b = some_same refl (sym x.0 ∙ costs_kept v e ∙ eb) in
              absurd (both_ways (k.less b b) (laws.irreflexive b cb) (subst (λ (y : ℕ). k.less b y ≡ true) q l))
          | inr o ↦ elim o [
            | inl x ↦
                let q : k.add a (m.figure u v) ≡ b = some_same x.1 eb in
                absurd (both_ways (k.less b b) (laws.irreflexive b cb) (subst (λ (y : ℕ). k.less b y ≡ true) q l))
            | inr x ↦ x.0
          ]
        ]
  ]

  -- the offers of the other settled nodes are as they were where the cost is
  other_same : (v w : ℕ) → (R' v).distance ≡ (R v).distance → (w ≡ u → ⊥) → offers k m (λ v. (R' v).distance) s' v w ≡ offers k m (λ v. (R v).distance) s v w
  other_same v w e n = ap (λ (b : Bool). b && leads_to k (m.figure w v) (R' w).distance (R' v).distance) (others w n) ∙ go (s w) refl
    where
      go : (b : Bool) → s w ≡ b → (b && leads_to k (m.figure w v) (R' w).distance (R' v).distance) ≡ (b && leads_to k (m.figure w v) (R w).distance (R v).distance)
      go false q = refl
      go true q = ap₂ (leads_to k (m.figure w v)) (costs_kept w (others w n ∙ q)) e

  here_new : (v : ℕ) → offers k m (λ v. (R' v).distance) s' v u ≡ leads_to k (m.figure u v) (Some a) (R' v).distance
  here_new v = ap (λ (b : Bool). b && leads_to k (m.figure u v) (R' u).distance (R' v).distance) done ∙ ap (λ (o : Option ℕ). leads_to k (m.figure u v) o (R' v).distance) (costs_kept u done ∙ here)

  here_old : (v : ℕ) → offers k m (λ v. (R v).distance) s v u ≡ false
  here_old v = and_left (s u) (leads_to k (m.figure u v) (R u).distance (R v).distance) fresh

  -- where the cost is as it was and u does not offer it, all offers are
  all_same : (v : ℕ) → (R' v).distance ≡ (R v).distance → leads_to k (m.figure u v) (Some a) (R' v).distance ≡ false → (w : ℕ) → offers k m (λ v. (R' v).distance) s' v w ≡ offers k m (λ v. (R v).distance) s v w
  all_same v e z w = elim (cases_eq w u) [
    | inl q ↦ subst⁻¹ (λ (x : ℕ). offers k m (λ v. (R' v).distance) s' v x ≡ offers k m (λ v. (R v).distance) s v x) q (here_new v ∙ z ∙ sym (here_old v))
    | inr n ↦ other_same v w e n
  ]

  -- a lesser cost is offered by u alone
  only : (v : ℕ) → 1 ≤ m.figure u v → (R' v).distance ≡ Some (k.add a (m.figure u v)) → ((b : ℕ) → (R v).distance ≡ Some b → k.less (k.add a (m.figure u v)) b ≡ true)
      → (w : ℕ) → (w ≡ u → ⊥) → offers k m (λ v. (R' v).distance) s' v w ≡ false
  only v j e low w n = elim (cases_Bool (offers k m (λ v. (R' v).distance) s' v w)) [
    | inr z ↦ z
    | inl y ↦
        let (sw, lead) = and_parts (s' w) (leads_to k (m.figure w v) (R' w).distance (R' v).distance) y in
        let (x, c, ex, ec, jw, q) = passes k (m.figure w v) (R' w).distance (R' v).distance lead in
        let old : (R w).distance ≡ Some x = sym (costs_kept w sw) ∙ ex in
        let (b, eb, lb) = going.closed w v x (sym (others w n) ∙ sw) jw old in
        let z : k.add x (m.figure w v) ≡ k.add a (m.figure u v) = q ∙ some_same ec e in
        absurd (both_ways (k.less (k.add a (m.figure u v)) b) (subst (λ (y : ℕ). k.less y b ≡ false) z lb) (low b eb))
  ]

  pub chosen' : (v : ℕ) → Lowest (offers k m (λ v. (R v).distance) s v) m.count (R v).parent → Lowest (offers k m (λ v. (R' v).distance) s' v) m.count (R' v).parent
  chosen' v h = elim (cases_lt (m.figure u v) 1) [
    | inl z ↦
        let e = unseen v z in
        subst⁻¹ (λ (x : Route). Lowest (offers k m (λ v. (R' v).distance) s' v) m.count x.parent) e
        (lowest_same (offers k m (λ v. (R v).distance) s v) (offers k m (λ v. (R' v).distance) s' v) m.count (R v).parent
        (all_same v (ap (λ (x : Route). x.distance) e) (leads_none k (m.figure u v) (Some a) (R' v).distance z)) h)
    | inr j ↦
        let nu = sound.leaves u v j in
        elim (seen v j) [
          | inl x ↦ subst⁻¹ (Lowest (offers k m (λ v. (R' v).distance) s' v) m.count) x.1
              (lowest_at (offers k m (λ v. (R' v).distance) s' v) m.count u nu.0 nu.1 (leads_now v j x.0) (λ q low high. only v j x.0 x.2 q (λ z. omega arith)))
          | inr o ↦ elim o [
            | inl x ↦ subst⁻¹ (Lowest (offers k m (λ v. (R' v).distance) s' v) m.count) x.2
                (lowest_more (offers k m (λ v. (R v).distance) s v) (offers k m (λ v. (R' v).distance) s' v) m.count (R v).parent u nu.0 nu.1 (leads_now v j (x.0 ∙ x.1))
                (λ w n. other_same v w x.0 n) h)
            | inr x ↦
                let e : (R' v).distance ≡ (R v).distance = ap (λ (y : Route). y.distance) x.0 in
                subst⁻¹ (λ (y : Route). Lowest (offers k m (λ v. (R' v).distance) s' v) m.count y.parent) x.0
                (lowest_same (offers k m (λ v. (R v).distance) s v) (offers k m (λ v. (R' v).distance) s' v) m.count (R v).parent
                (all_same v e (ap (leads_to k (m.figure u v) (Some a)) (e ∙ x.1.1) ∙ leads_some k (m.figure u v) a x.1.0 j ∙ ne_eqb (k.add a (m.figure u v)) x.1.0 x.1.2)) h)
          ]
        ]
  ]
    where
      leads_now : (v : ℕ) → 1 ≤ m.figure u v → (R' v).distance ≡ Some (k.add a (m.figure u v)) → offers k m (λ v. (R' v).distance) s' v u ≡ true
      leads_now v j e = here_new v ∙ ap (leads_to k (m.figure u v) (Some a)) e ∙ leads_some k (m.figure u v) a (k.add a (m.figure u v)) j ∙ eq-eqb (k.add a (m.figure u v)) (k.add a (m.figure u v)) refl
