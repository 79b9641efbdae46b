-- The test of the table of sending times, computed over all of its entries at once.
use Rattle.std.specs.Prelude.{ℕ, suc, ◌+◌, ◌-◌, ◌*◌, Bool, true, ◌&&◌, List, [], ◌∷◌, map, length, ◌==◌, nat_le, nat_lt, slice_index}
use Rattle.timing.specs.Speeds.{rate, speeds}
use Rattle.timing.specs.Sending.{bits_of}

-- each element of a list passes the test of its place, counted from i
abbrev pub every : {X : Type 0} → (ℕ → X → Bool) → ℕ → List X → Bool
every f i [] = true
every f i (x ∷ xs) = f i x && every f (suc i) xs

-- a list has n elements, and each passes the test of its place, counted from 0
abbrev pub each : {X : Type 0} → ℕ → (ℕ → X → Bool) → List X → Bool
each n f xs = length xs == n && every f 0 xs

-- at so many bits a second, t units are enough for that many words, and one less is not
abbrev pub right_time : ℕ → ℕ → ℕ → Bool
right_time bits words t = nat_le (bits_of words * 10000) (t * bits) && nat_lt ((t - 1) * bits) (bits_of words * 10000)

-- a block to each speed, 64 times to a block, and every time is right at its place
abbrev pub right_table : List (List ℕ) → Bool
right_table table = each 8 (λ s block. each 64 (λ i t. right_time (slice_index (map rate speeds) s) (i + 1) t) block) table
