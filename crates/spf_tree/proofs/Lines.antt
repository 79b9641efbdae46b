-- The offers of all lines that leave a node. Assumes nothing.
use Rattle.std.proofs.Common.{◌≡◌, ℕ, zero, suc, ◌<◌, ◌≤◌, true, eqb, List, [], ◌∷◌, length, get_or, take, sym, refl, ap, ◌∙◌, subst, inl, inr, arith}
use mathlib.Core.Path.{subst⁻¹}
use Rattle.std.proofs.lemmas.List.{take_all}
use Rattle.std.proofs.lemmas.Bool.{cases_eq, eq-eqb, ne_eqb, cond-true, cond-false}
use Rattle.metric.specs.Meaning.{Meaning}
use Rattle.wire.specs.declared.lines.Line.{Line}
use Rattle.rows.specs.Rows.{allowed, no_line}
use Rattle.rows.proofs.Facts.{first_allowed, rest_allowed, lines_allowed}
use Rattle.spf.specs.declared.route.Route.{Route}
use Rattle.spf.specs.Reckoning.{route_at}
use Rattle.spf.specs.Maps.{Map}
use Rattle.spf.specs.Rows.{figure_to}
use Rattle.spf_laws.specs.Searches.{offered, after_line}
use Rattle.spf_tree.specs.declared.search.Search.{Search}
use Rattle.spf_tree.specs.Steps.{Offered, offered_all}

pub offered_all_lem : (k : Meaning) (u a : ℕ) (lines : List Line) (i : ℕ) (s₀ s₁ : Search) → length lines ≤ i → Offered (offered_all k u a (take i lines)) s₀ s₁ → Offered (offered_all k u a lines) s₀ s₁
offered_all_lem k u a lines i s₀ s₁ h = subst (λ (xs : List Line). Offered (offered_all k u a xs) s₀ s₁) (take_all i lines h)

pub line_low : (count node : ℕ) (lines : List Line) (i : ℕ) (x : Line) → allowed count node 0 lines ≡ true → i < length lines → x ≡ get_or lines i no_line → 1 ≤ x.neighbour
line_low count node lines i x ok h e = subst⁻¹ (λ (y : Line). 1 ≤ y.neighbour) e (lines_allowed count node 0 lines i ok h).above

pub line_high : (count node : ℕ) (lines : List Line) (i : ℕ) (x : Line) → count ≤ 64 → allowed count node 0 lines ≡ true → i < length lines → x ≡ get_or lines i no_line → x.neighbour ≤ 64
line_high count node lines i x small ok h e = subst⁻¹ (λ (y : Line). y.neighbour ≤ 64) e (omega (arith, (lines_allowed count node 0 lines i ok h).within))

module _ (k : Meaning) (u a count node v : ℕ) where
  -- lines that lead past v offer it nothing
  past : (previous : ℕ) (lines : List Line) (route : Route) → allowed count node previous lines ≡ true → v ≤ previous → (offered_all k u a lines v route ≡ route) × (figure_to v lines ≡ 0)
  past previous [] route ok h = (refl, refl)
  past previous (x ∷ xs) route ok h =
      let first = first_allowed count node previous x xs ok in
      let n : v ≡ x.neighbour → ⊥ = λ e. omega (arith, first.above) in
      let n' : x.neighbour ≡ v → ⊥ = λ e. omega (arith, first.above) in
      let (p, q) = past x.neighbour xs route (rest_allowed count node previous x xs ok) (omega (arith, first.above)) in (
        ap (λ (r : Route). offered_all k u a xs v r) (cond-false (eqb v x.neighbour) (offered k u (k.add a x.figure) route) route (ne_eqb v x.neighbour n)) ∙ p,
        cond-false (eqb x.neighbour v) x.figure (figure_to v xs) (ne_eqb x.neighbour v n') ∙ q,
      )

  after_figure : (f : ℕ) (route : Route) → 1 ≤ f → offered k u (k.add a f) route ≡ after_line k u a f route
  after_figure zero route h = absurd (omega arith)
  after_figure (suc f) route h = refl

  -- all offers together are that of the line to v
  pub lines_offer : (previous : ℕ) (lines : List Line) (route : Route) → allowed count node previous lines ≡ true → offered_all k u a lines v route ≡ after_line k u a (figure_to v lines) route
  lines_offer previous [] route ok = refl
  lines_offer previous (x ∷ xs) route ok =
      let first = first_allowed count node previous x xs ok in
      let rest = rest_allowed count node previous x xs ok in
      elim (cases_eq v x.neighbour) [
        | inl e ↦
            let r' = offered k u (k.add a x.figure) route in
            ap (λ (r : Route). offered_all k u a xs v r) (cond-true (eqb v x.neighbour) r' route (eq-eqb v x.neighbour e))
            ∙ (past x.neighbour xs r' rest (omega arith)).0 ∙ after_figure x.figure route first.figure
            ∙ ap (λ (f : ℕ). after_line k u a f route) (sym (cond-true (eqb x.neighbour v) x.figure (figure_to v xs) (eq-eqb x.neighbour v (sym e))))
        | inr n ↦
            ap (λ (r : Route). offered_all k u a xs v r) (cond-false (eqb v x.neighbour) (offered k u (k.add a x.figure) route) route (ne_eqb v x.neighbour n))
            ∙ lines_offer x.neighbour xs route rest
            ∙ ap (λ (f : ℕ). after_line k u a f route) (sym (cond-false (eqb x.neighbour v) x.figure (figure_to v xs) (ne_eqb x.neighbour v (λ e. n (sym e)))))
      ]

-- after them the routes are as the figures of the map say
pub offered_lines : (k : Meaning) (u a : ℕ) (m : Map) (lines : List Line) (s₀ s₁ : Search) → ((v : ℕ) → m.figure u v ≡ figure_to v lines) → allowed m.count u 0 lines ≡ true
    → Offered (offered_all k u a lines) s₀ s₁ → Offered (λ v. after_line k u a (m.figure u v)) s₀ s₁
offered_lines k u a m lines s₀ s₁ figures ok all = record {
  routes = λ v.
      let route = route_at s₀.routes v in
      all.routes v ∙ lines_offer k u a m.count u v 0 lines route ok ∙ ap (λ (f : ℕ). after_line k u a f route) (sym (figures v));
  listed = all.listed;
  reached = all.reached;
  settled = all.settled;
  sized = all.sized;
}
