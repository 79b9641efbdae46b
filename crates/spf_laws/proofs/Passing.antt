-- The numbers from 1 on that pass a test: the lowest, and how many there are. Assumes nothing.
use Rattle.std.proofs.Common.{◌≡◌, ℕ, zero, suc, ◌<◌, ◌≤◌, Bool, true, false, cond, sym, refl, ap, ◌∙◌, inl, inr, arith}
use Rattle.std.proofs.lemmas.Bool.{cases_eq, false≢true}
use Rattle.spf.specs.Reckoning.{lowest, or_else}
use Rattle.spf_laws.specs.Searches.{Lowest, passing}

lowest_more : (t : ℕ → Bool) (n x : ℕ) → Lowest t n x → (b : Bool) → t (suc n) ≡ b → Lowest t (suc n) (or_else x (cond b (suc n) 0))
lowest_more t n zero h true e = (omega arith, e, λ q low high. h q low (omega arith))
lowest_more t n zero h false e = λ q low high. elim (cases_eq q (suc n)) [ inl z ↦ ap t z ∙ e | inr z ↦ h q low (omega arith) ]
lowest_more t n (suc p) h b e = (omega (arith, h.0), h.1, h.2)

pub lowest_right : (t : ℕ → Bool) (n : ℕ) → Lowest t n (lowest t n)
lowest_right t zero = λ q low high. absurd (omega arith)
lowest_right t (suc n) = lowest_more t n (lowest t n) (lowest_right t n) (t (suc n)) refl

-- where g passes whatever f passes, it passes as many at least
one_le : (x y : Bool) → (x ≡ true → y ≡ true) → cond x 1 0 ≤ cond y 1 0
one_le false y h = omega arith
one_le true false h = absurd (false≢true (h refl))
one_le true true h = omega arith

pub passing_le : (f g : ℕ → Bool) (n : ℕ) → ((w : ℕ) → 1 ≤ w → w ≤ n → f w ≡ true → g w ≡ true) → passing f n ≤ passing g n
unfolding passing
passing_le f g zero h = omega arith
passing_le f g (suc n) h =
    omega (arith, passing_le f g n (λ w low high. h w low (omega arith)), one_le (f (suc n)) (g (suc n)) (h (suc n) (omega arith) (omega arith)))

-- and more, where it passes an x that f does not
pub passing_lt : (f g : ℕ → Bool) (n : ℕ) → ((w : ℕ) → 1 ≤ w → w ≤ n → f w ≡ true → g w ≡ true)
    → (x : ℕ) → 1 ≤ x → x ≤ n → f x ≡ false → g x ≡ true → passing f n < passing g n
unfolding passing
passing_lt f g zero h x low high fx gx = absurd (omega arith)
passing_lt f g (suc n) h x low high fx gx = elim (cases_eq x (suc n)) [
  | inl q ↦
      let e = ap {B = ℕ} (λ (b : Bool). cond b 1 0) (ap f (sym q) ∙ fx) in
      let e' = ap {B = ℕ} (λ (b : Bool). cond b 1 0) (ap g (sym q) ∙ gx) in
      omega (arith, passing_le f g n (λ w l u. h w l (omega arith)), e, e')
  | inr z ↦
      omega (
        arith,
        passing_lt f g n (λ w l u. h w l (omega arith)) x low (omega arith) fx gx,
        one_le (f (suc n)) (g (suc n)) (h (suc n) (omega arith) (omega arith)),
      )
]

-- everything passes as often as there are numbers
pub passing_all : (n : ℕ) → passing (λ (w : ℕ). true) n ≡ n
unfolding passing
passing_all zero = refl
passing_all (suc n) = omega (arith, passing_all n)

-- so no test is passed more often
pub passing_few : (f : ℕ → Bool) (n : ℕ) → passing f n ≤ n
passing_few f n = omega (arith, passing_all n, passing_le f (λ (w : ℕ). true) n (λ w _ _ _. refl))
