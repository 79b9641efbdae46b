-- Which words are decimal numbers, and which number each is.
use Rattle.std.specs.Prelude.{◌≡◌, ℕ, ◌+◌, ◌-◌, ◌*◌, ◌^◌, ◌<◌, min, if◌then◌else◌, List, [], ◌∷◌, Some, None, decimal, Option}
use Rattle.std.specs.Str.{all_ascii_digits}

-- The value of digits that follow digits of the value n.
abbrev pub value_after : ℕ → List ℕ → ℕ
value_after n [] = n
value_after n (b ∷ bs) = value_after (10 * n + (b - 48)) bs

-- The number that a word of digits alone stands for, at most `largest`; no other word stands for a number.
abbrev pub number_of : List ℕ → ℕ → Option ℕ
number_of [] largest = None
number_of (b ∷ bs) largest = if all_ascii_digits (b ∷ bs) then Some (min (value_after 0 (b ∷ bs)) largest) else None

-- The laws of numbers at most `largest`.
pub record NumberLaws (largest : ℕ) : Type 0 where
  -- a number that was written in decimal is read as itself, or as `largest` where that is less
  pub written : (n : ℕ) → n < 2 ^ 64 → number_of (decimal n) largest ≡ Some (min n largest)
  -- a zero in front changes nothing
  pub zero : (b : ℕ) (bs : List ℕ) → number_of (48 ∷ (b ∷ bs)) largest ≡ number_of (b ∷ bs) largest
