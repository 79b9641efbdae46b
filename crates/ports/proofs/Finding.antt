-- The figure of the slot that is up to a node: where it comes from, and when there is none.
use Rattle.std.proofs.Common.{◌≡◌, ℕ, false, List, ◌∷◌, length, get_or, is_some, Some, None, Option, sym, refl, ap, ◌∙◌, subst, inl, inr, arith}
use Rattle.std.proofs.lemmas.Bool.{cases_lt}
use Rattle.std.proofs.lemmas.Bool.Decides.{nat_tests}
use Rattle.std.proofs.lemmas.List.{get_or_past}
use Rattle.ports.specs.Rows.{figure_to, served}
use Rattle.slots.specs.Slots.{State, UpLine, figure_for, neighbour_of}
use Rattle.ports.specs.Places.{neighbour_at}
use Rattle.ports.proofs.Firsts.{Comes, first_is, comes_from}

module _ (n : ℕ) (u : UpLine) (slots : List State) where
  -- a slot that is up to the node
  pub here : u.neighbour ≡ n → figure_to n (Some u ∷ slots) ≡ Some u.reported
  here e = grind (arith, nat_tests)

  -- a slot that is up to another node
  pub elsewhere : (u.neighbour ≡ n → ⊥) → figure_to n (Some u ∷ slots) ≡ figure_to n slots
  elsewhere ne = grind (arith, nat_tests)

-- the line of a slot at some place
pub record Source (slots : List State) (n figure : ℕ) : Type 0 where
  pub place : ℕ
  pub line : UpLine
  pub there : get_or slots place None ≡ Some line
  pub leads : line.neighbour ≡ n
  pub reports : line.reported ≡ figure

pub source : (slots : List State) (n figure : ℕ) → figure_to n slots ≡ Some figure → Source slots n figure
source slots n figure e = let from = subst (Comes (figure_for n) None slots) e (comes_from (figure_for n) None slots) in go from.0 (get_or slots from.0 None) refl from.2
  where
    go : (i : ℕ) (s : State) → get_or slots i None ≡ s → figure_for n s ≡ Some figure → Source slots n figure
    go i None at e' = absurd (cc)
    go i (Some u) at e' = record { place = i; line = u; there = at; leads = grind (arith, nat_tests); reports = grind (arith, nat_tests) }

-- no slot is up to the node
pub no_figure : (slots : List State) (n : ℕ) → ((j : ℕ) → neighbour_at slots j ≡ Some n → ⊥) → figure_to n slots ≡ None
no_figure slots n none = first_is (figure_for n) None slots None (λ k below. go (get_or slots k None) (none k))
  where
    go : (s : State) → (neighbour_of s ≡ Some n → ⊥) → figure_for n s ≡ None
    go None other = refl
    go (Some u) other = let ne : u.neighbour ≡ n → ⊥ = λ e. other (ap Some e) in grind (arith, nat_tests)

-- where no slot serves a node, none is up to it
pub unserved : (slots : List State) (n : ℕ) → served n slots ≡ false → (j : ℕ) → neighbour_at slots j ≡ Some n → ⊥
unserved slots n no_slot j e =
    elim (cases_lt j (length slots)) [
      | inl inside ↦ silent (get_or slots j None) (subst (Comes (figure_for n) None slots) (none (figure_to n slots) no_slot) (comes_from (figure_for n) None slots) j inside) e
      | inr outside ↦ let past : None ≡ Some n = sym (ap neighbour_of (get_or_past slots j None outside)) ∙ e in absurd (cc)
    ]
  where
    none : (o : Option ℕ) → is_some o ≡ false → o ≡ None
    none None h = refl
    none (Some f) h = absurd (cc)

    silent : (s : State) → figure_for n s ≡ None → neighbour_of s ≡ Some n → ⊥
    silent None a b = absurd (cc)
    silent (Some u) a b = let same : u.neighbour ≡ n = cc in grind (arith, nat_tests)
