-- The lowest number that passes, as the test changes. Assumes nothing.
use Rattle.std.proofs.Common.{◌≡◌, ℕ, zero, suc, ◌<◌, ◌≤◌, min, Bool, true, false, ◌⊎◌, refl, ◌∙◌, inl, inr, arith}
use mathlib.Core.Path.{subst⁻¹}
use Rattle.std.proofs.lemmas.Bool.{cases_lt}
use Rattle.spf_laws.specs.Searches.{Lowest, lower_of}

pub lowest_same : (t t' : ℕ → Bool) (n p : ℕ) → ((w : ℕ) → t' w ≡ t w) → Lowest t n p → Lowest t' n p
lowest_same t t' n zero e h = λ q low high. e q ∙ h q low high
lowest_same t t' n (suc p) e h = (h.0, e (suc p) ∙ h.1, λ q low high. e q ∙ h.2 q low high)

pub lowest_at : (t : ℕ → Bool) (n u : ℕ) → 1 ≤ u → u ≤ n → t u ≡ true → ((q : ℕ) → 1 ≤ q → q < u → t q ≡ false) → Lowest t n u
lowest_at t n zero low high e h = absurd (omega arith)
lowest_at t n (suc p) low high e h = (high, e, h)

-- one more that passes: the lower of the two
pub lowest_more : (t t' : ℕ → Bool) (n p u : ℕ) → 1 ≤ u → u ≤ n → t' u ≡ true → ((w : ℕ) → (w ≡ u → ⊥) → t' w ≡ t w) → Lowest t n p → Lowest t' n (lower_of p u)
lowest_more t t' n zero u low high e others h = lowest_at t' n u low high e (λ q l s. others q (λ z. omega arith) ∙ h q l (omega arith))
lowest_more t t' n (suc p) u low high e others h = elim (cases_lt (suc p) u) [
  | inl l ↦
      let q : min (suc p) u ≡ suc p = omega arith in
      subst⁻¹ (Lowest t' n) q (h.0, others (suc p) (λ z. omega arith) ∙ h.1, λ x a b. others x (λ z. omega arith) ∙ h.2 x a b)
  | inr g ↦
      let q : min (suc p) u ≡ u = omega arith in
      subst⁻¹ (Lowest t' n) q (lowest_at t' n u low high e (λ x a b. others x (λ z. omega arith) ∙ h.2 x a (omega arith)))
]

pub lowest_passes : (t : ℕ → Bool) (n p : ℕ) → Lowest t n p → (p ≡ 0) ⊎ (t p ≡ true)
lowest_passes t n zero h = inl refl
lowest_passes t n (suc p) h = inr h.1
