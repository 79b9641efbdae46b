-- What one digit more does to a number that is kept at most `largest`, and the laws of numbers.
use Rattle.std.proofs.Common.{◌≡◌, ℕ, ◌+◌, ◌-◌, ◌*◌, ◌<◌, ◌≤◌, min, true, false, List, [], ◌∷◌, length, get_or, drop, Some, None, decimal, refl, ap, ◌∙◌, ⊎_elim, arith, rules}
use Rattle.std.specs.Char.{digit_value, is_ascii_digit}
use Rattle.std.specs.Str.{all_ascii_digits}
use Rattle.std.proofs.lemmas.Fmt.{decimal_nonempty, digits_decimal, digits_value-decimal}
use Rattle.std.proofs.lemmas.List.{drop_more}
use Rattle.std.proofs.lemmas.Str.Parse.{IsNumeralModel, numerals_by_fold}
use Rattle.std.proofs.lemmas.Bool.{cases_lt}
use Rattle.std.proofs.lemmas.Bool.Decides.{nat_tests}
use Rattle.script.specs.Numbers.{value_after, number_of, NumberLaws}

-- digits make a number no less
no_less : (n : ℕ) (bs : List ℕ) → n ≤ value_after n bs
no_less n [] = omega arith
no_less n (b ∷ bs) = omega (arith, no_less (10 * n + (b - 48)) bs)

-- a cap on the way is of no consequence to a number that is capped at the end
pub capped : (largest n : ℕ) (bs : List ℕ) → min (value_after (min n largest) bs) largest ≡ min (value_after n bs) largest
capped largest n bs =
    ⊎_elim
    (λ (above : largest < n). let at : min n largest ≡ largest = omega arith in rw at (omega (arith, no_less largest bs, no_less n bs)))
    (λ (below : n ≤ largest). let at : min n largest ≡ n = omega arith in rw at refl)
    (cases_lt largest n)

-- what a digit, and what another byte, is
digit_at : (b d : ℕ) → digit_value b < 10 → d ≡ digit_value b → (is_ascii_digit b ≡ true) × (d ≡ b - 48)
digit_at b d low is = grind (arith, nat_tests)

other_at : (b : ℕ) → (digit_value b < 10 → ⊥) → is_ascii_digit b ≡ false
other_at b h = grind (arith, nat_tests)

module _ (word : List ℕ) (i : ℕ) (inside : i < length word) where
  -- one digit more
  module _ (d : ℕ) (low : digit_value (get_or word i 0) < 10) (is : d ≡ digit_value (get_or word i 0)) where
    pub digit_more : all_ascii_digits (drop (i + 1) word) ≡ all_ascii_digits (drop i word)
    digit_more = rw (drop_more word i 0) (rw (digit_at (get_or word i 0) d low is).0 refl)

    pub value_more : (n : ℕ) → value_after (10 * n + d) (drop (i + 1) word) ≡ value_after n (drop i word)
    value_more n = rw ((digit_at (get_or word i 0) d low is).1, drop_more word i 0) refl

  -- a byte that is no digit
  pub stopped : (digit_value (get_or word i 0) < 10 → ⊥) → all_ascii_digits (drop i word) ≡ false
  stopped h = rw (drop_more word i 0) (rw (other_at (get_or word i 0) h) refl)

pub refused : (word : List ℕ) (largest : ℕ) → all_ascii_digits word ≡ false → None ≡ number_of word largest
refused [] largest h = refl
refused (b ∷ bs) largest h = rw h refl

pub taken : (word : List ℕ) (largest : ℕ) → 0 < length word → all_ascii_digits word ≡ true → number_of word largest ≡ Some (min (value_after 0 word) largest)
taken [] largest some h = absurd (omega arith)
taken (b ∷ bs) largest some h = rw h refl

own : IsNumeralModel (λ ds. all_ascii_digits ds ≡ true) (value_after 0)
own = numerals_by_fold _ (search rules) value_after (search rules)

pub number_laws : (largest : ℕ) → NumberLaws largest
number_laws largest = record {
  written = λ n h. taken (decimal n) largest (decimal_nonempty n h) (digits_decimal own n h) ∙ ap (λ m. Some (min m largest)) (digits_value-decimal own n h);
  zero = λ b bs. refl;
}
