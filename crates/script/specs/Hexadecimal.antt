-- Which words are bytes, and how bytes are written.
use Rattle.std.specs.Prelude.{◌≡◌, ℕ, ◌+◌, ◌-◌, ◌*◌, ◌/◌, ◌%◌, ◌<◌, if◌then◌else◌, List, [], ◌∷◌, map, Some, None, Option, ◌==◌, nat_lt}
use Rattle.std.specs.Int.{is_in_range}
use Rattle.std.specs.List.{AllByRecursion}

-- The value of a hexadecimal digit, of either case; no other byte has one.
abbrev pub digit_value : ℕ → Option ℕ
digit_value b = if is_in_range 48 57 b then Some (b - 48)
    else (if is_in_range 97 102 b then Some (b - 87)
    else (if is_in_range 65 70 b then Some (b - 55)
    else None))

-- What follows from two values, where both are there.
abbrev pub both : {X Y Z : Type 0} → (X → Y → Z) → Option X → Option Y → Option Z
both f None y = None
both f (Some x) None = None
both f (Some x) (Some y) = Some (f x y)

-- The byte that two digits stand for, the first the more significant.
abbrev pub byte_of : ℕ → ℕ → Option ℕ
byte_of high low = both (λ h l. 16 * h + l) (digit_value high) (digit_value low)

-- The bytes that an even number of digits stands for.
abbrev pub pairs_of : List ℕ → Option (List ℕ)
pairs_of [] = Some []
pairs_of (high ∷ []) = None
pairs_of (high ∷ (low ∷ rest)) = both (λ b bs. b ∷ bs) (byte_of high low) (pairs_of rest)

-- The bytes that a word stands for: `-` for no bytes, else two digits or more.
abbrev pub bytes_of : List ℕ → Option (List ℕ)
bytes_of [] = None
bytes_of (b ∷ []) = if b == 45 then Some [] else None
bytes_of (high ∷ (low ∷ rest)) = pairs_of (high ∷ (low ∷ rest))

-- The digit of a value below 16, in lower case.
abbrev pub digit_byte : ℕ → ℕ
digit_byte d = if nat_lt d 10 then 48 + d else 87 + d

-- The digits of bytes, two to each, the more significant first.
abbrev pub digits_of : List ℕ → List ℕ
digits_of [] = []
digits_of (b ∷ bs) = digit_byte (b / 16) ∷ (digit_byte (b % 16) ∷ digits_of bs)

-- The word for bytes: their digits, or `-` where there are none.
abbrev pub hex_of : List ℕ → List ℕ
hex_of [] = 45 ∷ []
hex_of (b ∷ bs) = digits_of (b ∷ bs)

-- A byte with an upper case letter made lower case.
abbrev pub lower : ℕ → ℕ
lower b = if is_in_range 65 90 b then b + 32 else b

-- The laws of bytes as words.
pub record HexLaws : Type 0 where
  -- bytes that were written are read back
  pub back : (bs : List ℕ) → AllByRecursion (λ b. b < 256) bs → bytes_of (hex_of bs) ≡ Some bs
  -- a word that is read as bytes is, in lower case, what is written for them
  pub forth : (word bs : List ℕ) → bytes_of word ≡ Some bs → hex_of bs ≡ map lower word
