-- Figures among lines. Assumes nothing.
use Rattle.std.proofs.Common.{◌≡◌, ℕ, zero, suc, ◌<◌, ◌≤◌, true, eqb, List, [], ◌∷◌, length, Some, sym, refl, ◌∙◌, inl, inr, arith}
use Rattle.std.proofs.lemmas.Bool.{cases_Bool, eqb-true, eq-eqb, ne_eqb, cond-true, cond-false}
use Rattle.std.proofs.lemmas.Bool.Decides.{nat_tests}
use Rattle.std.specs.List.{AllByRecursion, find}
use Rattle.std.specs.Option.{option_map}
use Rattle.wire.specs.declared.lines.Line.{Line}
use Rattle.rows.specs.Rows.{allowed, figures_fit}
use Rattle.rows.proofs.Facts.{neighbour_at, figure_at, first_allowed, rest_allowed, lines_allowed}
use Rattle.spf.specs.Reading.{shown_figure}
use Rattle.spf.specs.Rows.{figure_to}

-- ---- a figure that is found

-- it fits
pub figure_fits : (v : ℕ) (lines : List Line) → figures_fit lines ≡ true → figure_to v lines ≤ 65535
figure_fits v [] h = omega arith
figure_fits v (x ∷ xs) h = let rest = figure_fits v xs in grind (arith, nat_tests, rest)

-- it stands at some place
pub figure_from : (v : ℕ) (lines : List Line) → 1 ≤ figure_to v lines → (i : ℕ) × (i < length lines) × (neighbour_at lines i ≡ v) × (figure_at lines i ≡ figure_to v lines)
figure_from v [] h = absurd (omega arith)
figure_from v (x ∷ xs) h = elim (cases_Bool (eqb x.neighbour v)) [
  | inl e ↦ (0, omega arith, eqb-true x.neighbour v e, sym (cond-true (eqb x.neighbour v) x.figure (figure_to v xs) e))
  | inr e ↦
      let q : figure_to v (x ∷ xs) ≡ figure_to v xs = cond-false (eqb x.neighbour v) x.figure (figure_to v xs) e in
      let r = figure_from v xs (omega arith) in
      (suc r.0, omega (arith, r.1), r.2, r.3 ∙ sym q)
]

module _ (count node : ℕ) where
  -- its line leads to a node
  pub figure_leads : (v : ℕ) (lines : List Line) → allowed count node 0 lines ≡ true → 1 ≤ figure_to v lines → (1 ≤ v) × (v ≤ count)
  figure_leads v lines h f =
      let r = figure_from v lines f in
      let line = lines_allowed count node 0 lines r.0 h r.1 in
      (omega (arith, line.above, r.2), omega (arith, line.within, r.2))

  -- what stands at a place is what is found, since no other line leads there
  pub figure_at_lem : (previous : ℕ) (lines : List Line) (i : ℕ) → allowed count node previous lines ≡ true → i < length lines → figure_to (neighbour_at lines i) lines ≡ figure_at lines i
  figure_at_lem previous [] i h inside = absurd (omega arith)
  figure_at_lem previous (x ∷ xs) zero h inside = cond-true (eqb x.neighbour x.neighbour) x.figure (figure_to x.neighbour xs) (eq-eqb x.neighbour x.neighbour refl)
  figure_at_lem previous (x ∷ xs) (suc i) h inside =
      let rest = rest_allowed count node previous x xs h in
      let v = neighbour_at xs i in
      let above = (lines_allowed count node x.neighbour xs i rest (omega arith)).above in
      cond-false (eqb x.neighbour v) x.figure (figure_to v xs) (ne_eqb x.neighbour v (λ e. omega arith)) ∙ figure_at_lem x.neighbour xs i rest (omega arith)

  -- no figure is 0
  pub all_figures : (previous : ℕ) (lines : List Line) → allowed count node previous lines ≡ true → AllByRecursion (λ x. 1 ≤ x.figure) lines
  all_figures previous [] h = tt
  all_figures previous (x ∷ xs) h = ((first_allowed count node previous x xs h).figure, all_figures x.neighbour xs (rest_allowed count node previous x xs h))

pub shown_some : (f : ℕ) → 1 ≤ f → Some f ≡ shown_figure f
shown_some zero h = absurd (omega arith)
shown_some (suc f) h = refl

-- the line that is found shows it
pub found_figure : (v : ℕ) (lines : List Line) → AllByRecursion (λ x. 1 ≤ x.figure) lines
    → option_map (λ (x : Line). x.figure) (find (λ (x : Line). eqb x.neighbour v) lines) ≡ shown_figure (figure_to v lines)
found_figure v [] some = refl
found_figure v (x ∷ xs) some = elim (cases_Bool (eqb x.neighbour v)) [
  | inl e ↦ simp e (shown_some x.figure some.0)
  | inr e ↦ simp e (found_figure v xs some.1)
]
