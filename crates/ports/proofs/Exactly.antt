-- The lines of an own report are those of the up slots, one for each, in another order; so they are eight at most.
use Rattle.std.proofs.Common.{◌≡◌, ℕ, zero, suc, ◌+◌, ◌<◌, ◌≤◌, List, [], ◌∷◌, ◌++◌, length, Some, None, Option, sym, refl, ap, ◌∙◌, subst, ap₂, inl, inr, arith}
use Rattle.std.proofs.lemmas.List.Sorted.{IsPermutation-refl, IsPermutation-sym, IsPermutation-cons, IsPermutation-middle, IsPermutation-append_right, IsPermutation-trans, length_permutation}
use Rattle.std.proofs.lemmas.Bool.{cases_eq}
use Rattle.std.specs.List.Sorted.{IsPermutation}
use Rattle.wire.specs.declared.lines.Line.{Line}
use Rattle.ports.specs.Rows.{figure_to, line_with, lines_from, lines_to, up_lines}
use Rattle.slots.specs.Slots.{State, UpLine}
use Rattle.ports.specs.Places.{Within, Apart}
use Rattle.ports.proofs.Finding.{here, elsewhere, no_figure}

-- the line of an up slot
abbrev line_of : UpLine → Line
line_of u = record { neighbour = u.neighbour; figure = u.reported }

-- a line to an earlier node is not among those from a node on
later : (u : UpLine) (slots : List State) (a n : ℕ) → u.neighbour < a → lines_from a n (Some u ∷ slots) ≡ lines_from a n slots
later u slots a zero h = refl
later u slots a (suc n) h =
    ap₂ (λ (o : Option ℕ) t. line_with a o ++ t) (elsewhere a u slots (λ e. omega arith)) (later u slots (a + 1) n (omega arith))

-- a slot more adds its line
module _ (u : UpLine) (slots : List State) (new : figure_to u.neighbour slots ≡ None) where
  one_more : (a n : ℕ) → a ≤ u.neighbour → u.neighbour < a + n → IsPermutation (line_of u ∷ lines_from a n slots) (lines_from a n (Some u ∷ slots))
  one_more a zero low high = absurd (omega arith)
  one_more a (suc n) low high =
      let rest = lines_from (a + 1) n slots in
      let rest' = lines_from (a + 1) n (Some u ∷ slots) in
      elim (cases_eq u.neighbour a) [
        | inl same ↦
            let none : figure_to a slots ≡ None = ap (λ (k : ℕ). figure_to k slots) (sym same) ∙ new in
            let before : line_of u ∷ lines_from a (suc n) slots ≡ line_of u ∷ rest = ap (λ (o : Option ℕ). line_of u ∷ (line_with a o ++ rest)) none in
            let after : lines_from a (suc n) (Some u ∷ slots) ≡ line_of u ∷ rest =
            ap₂ (λ (o : Option ℕ) t. line_with a o ++ t) (here a u slots same) (later u slots (a + 1) n (omega arith))
            ∙ ap (λ (k : ℕ). line_with k (Some u.reported) ++ rest) (sym same) in
            subst (λ t. IsPermutation (line_of u ∷ lines_from a (suc n) slots) t) (before ∙ sym after) (IsPermutation-refl _)
        | inr other ↦
            let first = line_with a (figure_to a slots) in
            subst (λ (o : Option ℕ). IsPermutation (line_of u ∷ (first ++ rest)) (line_with a o ++ rest')) (sym (elsewhere a u slots other))
            (IsPermutation-trans _ (first ++ line_of u ∷ rest) _ (IsPermutation-sym _ _ (IsPermutation-middle first (line_of u) rest))
            (IsPermutation-append_right first (line_of u ∷ rest) rest' (one_more (a + 1) n (omega arith) (omega arith))))
      ]

none_up : (a n : ℕ) → lines_from a n [] ≡ []
none_up a zero = refl
none_up a (suc n) = none_up (a + 1) n

pub exactly : (count root : ℕ) (slots : List State) → Within count root slots → Apart slots → IsPermutation (up_lines slots) (lines_to count slots)
exactly count root [] within apart = subst (λ t. IsPermutation [] t) (sym (none_up 1 count)) (IsPermutation-refl [])
exactly count root (None ∷ slots) within apart =
    exactly count root slots (λ i. within (suc i)) (λ i j both. let e = apart (suc i) (suc j) both in omega arith)
exactly count root (Some u ∷ slots) within apart =
    let good = within 0 u.neighbour refl in
    let new = no_figure slots u.neighbour (λ j e. let z = apart 0 (suc j) (u.neighbour, refl, e) in omega arith) in
    let rest = exactly count root slots (λ i. within (suc i)) (λ i j both. let e = apart (suc i) (suc j) both in omega arith) in
    IsPermutation-trans (line_of u ∷ up_lines slots) (line_of u ∷ lines_to count slots) (lines_to count (Some u ∷ slots))
    (IsPermutation-cons (line_of u) (up_lines slots) (lines_to count slots) rest) (one_more u slots new 1 count good.0 (omega (arith, good.1)))

-- at most as many lines as slots
few_up : (slots : List State) → length (up_lines slots) ≤ length slots
few_up [] = omega arith
few_up (None ∷ slots) = let h = few_up slots in omega arith
few_up (Some u ∷ slots) = let h = few_up slots in omega arith

pub few : (count root : ℕ) (slots : List State) → Within count root slots → Apart slots → length (lines_to count slots) ≤ length slots
few count root slots within apart =
    let e = length_permutation (up_lines slots) (lines_to count slots) (exactly count root slots within apart) in omega (arith, few_up slots)
