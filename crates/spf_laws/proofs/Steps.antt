-- A search as a whole: how it begins, and one step. Assumes nothing.
use Rattle.std.proofs.Common.{◌≡◌, ℕ, Bool, true, false, ◌⊎◌, Some, Option, sym, ap, ◌∙◌, inl, inr}
use mathlib.Core.Path.{subst⁻¹}
use Rattle.std.proofs.lemmas.Bool.{both_ways, and_left, and_parts, cond-false}
use Rattle.metric.specs.Meaning.{Meaning}
use Rattle.metric.specs.Laws.{Laws}
use Rattle.spf.specs.Maps.{Map, Node, Sound}
use Rattle.spf.specs.Reckoning.{leads_to}
use Rattle.spf.specs.declared.route.Route.{Route}
use Rattle.spf_laws.specs.Searches.{Going, Lowest, offers, after_line, hop_by, Searching, Partial}
use Rattle.spf_laws.proofs.Orders.{AtMost}
use Rattle.spf_laws.proofs.Lowest.{lowest_passes}
use Rattle.spf_laws.proofs.Choose.{going', chosen', route_kept, after_hop}
use Rattle.spf_laws.proofs.Hops.{hops'}

-- nothing is settled yet
pub start : (k : Meaning) (m : Map) (r : ℕ) (R : ℕ → Route) (s : ℕ → Bool) → ((v : ℕ) → s v ≡ false) → Partial k m r R → Searching k m r R s
start k m r R s none p = record {
  going = record {
    begins = p.begins;
    reached = p.reached;
    known = λ u y. absurd (both_ways (s u) (none u) y);
    closed = λ u v a y. absurd (both_ways (s u) (none u) y);
    ahead = λ u w a c y. absurd (both_ways (s u) (none u) y);
  };
  chosen = λ v. subst⁻¹ (Lowest (offers k m (λ w. (R w).distance) s v) m.count) (p.parents v) (λ q _ _. and_left (s q) (leads_to k (m.figure q v) (R q).distance (R v).distance) (none q));
  hops = λ v. p.hops v ∙ sym (cond-false (s v) (hop_by r v (R v).parent (R (R v).parent).hop) 0 (none v));
}

-- R are the routes before, R₁ with the next hop of u, and R₂ after the offers of its lines.
module _ (k : Meaning) (laws : Laws k) (m : Map) (sound : Sound m) (r : ℕ) (root : Node m r)
    (R R₁ R₂ : ℕ → Route) (s s' : ℕ → Bool) (search : Searching k m r R s) (u a : ℕ) (fresh : s u ≡ false) (here : (R u).distance ≡ Some a)
    (nearest : (w c : ℕ) → s w ≡ false → (R w).distance ≡ Some c → AtMost k a c) (done : s' u ≡ true) (others : (w : ℕ) → (w ≡ u → ⊥) → s' w ≡ s w)
    (costs : (v : ℕ) → (R₁ v).distance ≡ (R v).distance) (parents : (v : ℕ) → (R₁ v).parent ≡ (R v).parent)
    (hops : (v : ℕ) → (v ≡ u → ⊥) → (R₁ v).hop ≡ (R v).hop) (hop : (R₁ u).hop ≡ hop_by r u (R u).parent (R (R u).parent).hop)
    (changed : (v : ℕ) → R₂ v ≡ after_line k u a (m.figure u v) (R₁ v)) where
  same_costs : ◌≡◌ {A = ℕ → Option ℕ} (λ v. (R₁ v).distance) (λ v. (R v).distance)
  same_costs = λ i v. costs v i

  going₁ : Going k m r (λ v. (R₁ v).distance) s
  going₁ = subst⁻¹ (λ (t : ℕ → Option ℕ). Going k m r t s) same_costs search.going

  chosen₁ : (v : ℕ) → Lowest (offers k m (λ w. (R₁ w).distance) s v) m.count (R₁ v).parent
  chosen₁ v = subst⁻¹ (λ (t : ℕ → Option ℕ). Lowest (offers k m t s v) m.count (R₁ v).parent) same_costs
      (subst⁻¹ (Lowest (offers k m (λ w. (R w).distance) s v) m.count) (parents v) (search.chosen v))

  nearest₁ : (w c : ℕ) → s w ≡ false → (R₁ w).distance ≡ Some c → AtMost k a c
  nearest₁ w c z e = nearest w c z (sym (costs w) ∙ e)

  settled : (v : ℕ) → ((R v).parent ≡ 0) ⊎ (s (R v).parent ≡ true)
  settled v = elim (lowest_passes (offers k m (λ w. (R w).distance) s v) m.count (R v).parent (search.chosen v)) [
    | inl z ↦ inl z
    | inr y ↦ inr (and_parts (s (R v).parent) (leads_to k (m.figure (R v).parent v) (R (R v).parent).distance (R v).distance) y).0
  ]

  pub stepped : Searching k m r R₂ s'
  stepped =
      let kept : (v : ℕ) → s' v ≡ true → R₂ v ≡ R₁ v = route_kept k laws m sound r root R₁ R₂ s s' going₁ u a fresh (costs u ∙ here) nearest₁ done others changed in
      let after : (v : ℕ) → (R₂ v).hop ≡ (R₁ v).hop = λ v. ap (λ (x : Route). x.hop) (changed v) ∙ after_hop k u a (m.figure u v) (R₁ v) in
      record {
        going = going' k laws m sound r root R₁ R₂ s s' going₁ u a fresh (costs u ∙ here) nearest₁ done others changed;
        chosen = λ v. chosen' k laws m sound r root R₁ R₂ s s' going₁ u a fresh (costs u ∙ here) nearest₁ done others changed v (chosen₁ v);
        hops = hops' r R R₂ s s' u fresh done others (λ v y. ap (λ (x : Route). x.parent) (kept v y) ∙ parents v) (λ v n. after v ∙ hops v n) (after u ∙ hop) settled search.hops;
      }
