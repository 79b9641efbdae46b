-- Replacing one slot keeps the lines within the network and apart.
use Rattle.std.proofs.Common.{◌≡◌, ℕ, zero, suc, ◌-◌, ◌<◌, ◌≤◌, Bool, false, ◌⊎◌, List, [], ◌∷◌, map, length, get_or, set, Some, None, sym, refl, ap, ◌∙◌, subst, inl, inr}
use Rattle.std.proofs.lemmas.List.{get_or-set_same, get_or-set_other}
use Rattle.std.proofs.lemmas.Bool.{cases_eq}
use Rattle.slots.specs.Lines.{begun}
use Rattle.ports.specs.Rows.{served}
use Rattle.slots.specs.Slots.{State, UpLine, neighbour_of}
use Rattle.ports.specs.Places.{neighbour_at, Within, Apart, Placeable}
use Rattle.ports.proofs.Finding.{unserved}

-- a neighbour after the replacing is that of the new slot, or was there before
at_set : (slots : List State) (i j n : ℕ) (x : State) → i < length slots → neighbour_at (set slots i x) j ≡ Some n
    → ((j ≡ i) × (neighbour_of x ≡ Some n)) ⊎ (neighbour_at slots j ≡ Some n)
at_set slots i j n x h e =
    elim (cases_eq j i) [
      | inl same ↦ inl (same, sym (ap (λ (k : ℕ). neighbour_at (set slots i x) k) same ∙ ap neighbour_of (get_or-set_same slots i x None h)) ∙ e)
      | inr other ↦ inr (sym (ap neighbour_of (get_or-set_other slots i j x None other)) ∙ e)
    ]

module _ (count root : ℕ) (slots : List State) (number : ℕ) (x : State) (h : number - 1 < length slots) (fits : Placeable count root slots number x) where
  pub put_within : Within count root slots → Within count root (set slots (number - 1) x)
  put_within within j n e =
      elim (at_set slots (number - 1) j n x h e) [ inl new ↦ (fits n new.1).0 | inr old ↦ within j n old ]

  pub put_apart : Apart slots → Apart (set slots (number - 1) x)
  put_apart apart j k both =
      let n = both.0 in
      elim (at_set slots (number - 1) j n x h both.1) [
        | inl new ↦ elim (at_set slots (number - 1) k n x h both.2) [
          | inl new' ↦ new.0 ∙ sym new'.0
          | inr old' ↦ new.0 ∙ sym ((fits n new.1).1 k old')
        ]
        | inr old ↦ elim (at_set slots (number - 1) k n x h both.2) [
          | inl new' ↦ (fits n new'.1).1 j old ∙ sym new'.0
          | inr old' ↦ apart j k (n, old, old')
        ]
      ]

-- a line of the same neighbour as the slot had
pub place_kept : (count root : ℕ) (slots : List State) (number : ℕ) (u v : UpLine) → Within count root slots → Apart slots
    → get_or slots (number - 1) None ≡ Some u → v.neighbour ≡ u.neighbour → Placeable count root slots number (Some v)
place_kept count root slots number u v within apart there same n e =
    let old : neighbour_at slots (number - 1) ≡ Some n = ap neighbour_of there ∙ ap Some (sym same) ∙ e in
    (within (number - 1) n old, λ j other. apart j (number - 1) (n, other, old))

-- a line to a node that no slot serves
pub place_new : (count root : ℕ) (slots : List State) (number : ℕ) (v : UpLine) → 1 ≤ v.neighbour → v.neighbour ≤ count → (v.neighbour ≡ root → ⊥)
    → served v.neighbour slots ≡ false → Placeable count root slots number (Some v)
place_new count root slots number v low high other new n e =
    let same : v.neighbour ≡ n = cc in (
      subst (λ k. (1 ≤ k) × (k ≤ count) × (k ≡ root → ⊥)) same (low, high, other),
      λ j at. absurd (unserved slots v.neighbour new j (at ∙ ap Some (sym same))),
    )

-- a new period changes no neighbour
begun_neighbour : (report : Bool) (slots : List State) (i : ℕ) → neighbour_at (map (begun report) slots) i ≡ neighbour_at slots i
begun_neighbour report [] i = refl
begun_neighbour report (None ∷ slots) zero = refl
begun_neighbour report (Some u ∷ slots) zero = refl
begun_neighbour report (s ∷ slots) (suc i) = begun_neighbour report slots i

module _ (report : Bool) (slots : List State) where
  pub begun_within : (count root : ℕ) → Within count root slots → Within count root (map (begun report) slots)
  begun_within count root within i n e = within i n (sym (begun_neighbour report slots i) ∙ e)

  pub begun_apart : Apart slots → Apart (map (begun report) slots)
  begun_apart apart i j both = apart i j (both.0, sym (begun_neighbour report slots i) ∙ both.1, sym (begun_neighbour report slots j) ∙ both.2)
