-- Next hops, found in the order of settling. Assumes nothing.
use Rattle.std.proofs.Common.{◌≡◌, ℕ, Bool, true, false, ◌⊎◌, sym, ap, ◌∙◌, subst, inl, inr, arith}
use mathlib.Core.Path.{subst⁻¹}
use Rattle.std.proofs.lemmas.Bool.{both_ways, cases_Bool, cases_eq, cond-true, cond-false}
use Rattle.std.proofs.lemmas.Bool.Decides.{nat_tests}
use Rattle.spf.specs.declared.route.Route.{Route}
use Rattle.spf_laws.specs.Searches.{hop_by, HopsSo}

hop_none : (r v p h h' : ℕ) → p ≡ 0 → hop_by r v p h ≡ hop_by r v p h'
hop_none r v p h h' e = grind (arith, nat_tests)

-- R are the routes before u is settled, R' after it and after its offers.
module _ (r : ℕ) (R R' : ℕ → Route) (s s' : ℕ → Bool) (u : ℕ) (fresh : s u ≡ false) (done : s' u ≡ true) (others : (w : ℕ) → (w ≡ u → ⊥) → s' w ≡ s w)
    (parents : (v : ℕ) → s' v ≡ true → (R' v).parent ≡ (R v).parent) (hops : (v : ℕ) → (v ≡ u → ⊥) → (R' v).hop ≡ (R v).hop) (here : (R' u).hop ≡ hop_by r u (R u).parent (R (R u).parent).hop)
    (settled : (v : ℕ) → ((R v).parent ≡ 0) ⊎ (s (R v).parent ≡ true)) (so : (v : ℕ) → HopsSo r R s v) where
  -- a settled parent keeps its next hop
  by_parent : (v : ℕ) → s' v ≡ true → hop_by r v (R v).parent (R (R v).parent).hop ≡ hop_by r v (R' v).parent (R' (R' v).parent).hop
  by_parent v e = same ∙ ap (λ (p : ℕ). hop_by r v p (R' p).hop) (sym (parents v e))
    where
      same : hop_by r v (R v).parent (R (R v).parent).hop ≡ hop_by r v (R v).parent (R' (R v).parent).hop
      same = elim (settled v) [
        | inl z ↦ hop_none r v (R v).parent (R (R v).parent).hop (R' (R v).parent).hop z
        | inr y ↦ ap (hop_by r v (R v).parent) (sym (hops (R v).parent (λ q. both_ways (s u) fresh (subst (λ (x : ℕ). s x ≡ true) q y))))
      ]

  pub hops' : (v : ℕ) → HopsSo r R' s' v
  hops' v = elim (cases_eq v u) [
    | inl q ↦ subst⁻¹ (HopsSo r R' s') q (here ∙ by_parent u done ∙ sym (cond-true (s' u) (hop_by r u (R' u).parent (R' (R' u).parent).hop) 0 done))
    | inr n ↦ elim (cases_Bool (s' v)) [
      | inl y ↦ hops v n ∙ so v ∙ cond-true (s v) (hop_by r v (R v).parent (R (R v).parent).hop) 0 (sym (others v n) ∙ y) ∙ by_parent v y
          ∙ sym (cond-true (s' v) (hop_by r v (R' v).parent (R' (R' v).parent).hop) 0 y)
      | inr z ↦ hops v n ∙ so v ∙ cond-false (s v) (hop_by r v (R v).parent (R (R v).parent).hop) 0 (sym (others v n) ∙ z)
          ∙ sym (cond-false (s' v) (hop_by r v (R' v).parent (R' (R' v).parent).hop) 0 z)
    ]
  ]
