-- The numbers of a generator of the kind xorshift, with shifts by 13, 7 and 17 in 64 bits. Assumes nothing.
use Rattle.std.specs.Prelude.{ℕ, ◌*◌, ◌/◌, ◌%◌, ◌^◌, bit_xor}

-- Where a generator begins.
abbrev pub beginning : ℕ
beginning = 88172645463325252

-- A number mixed with itself, so many bits to the left; what passes 64 bits is lost.
abbrev pub mixed_left : ℕ → ℕ → ℕ
mixed_left bits s = bit_xor s (s * 2 ^ bits % 2 ^ 64)

-- A number mixed with itself, so many bits to the right.
abbrev pub mixed_right : ℕ → ℕ → ℕ
mixed_right bits s = bit_xor s (s / 2 ^ bits)

-- The next number.
abbrev pub stepped : ℕ → ℕ
stepped s = mixed_left 17 (mixed_right 7 (mixed_left 13 s))
