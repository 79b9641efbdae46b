-- The speeds: their numbers, and how much they send.
use Rattle.std.specs.Prelude.{ℕ, List, [], ◌∷◌, Option, ◌==◌, find}
use Rattle.timing.specs.declared.speed.Speed.{Speed}
use Rattle.timing.specs.declared.speed.Speed.TheVariants.{Bits2400, Bits4800, Bits9600, Bits19200, Bits50000, Bits56000, Bits64000, Bits230400}

-- the number of a speed, and the bits that it sends in a second
pub record Rating : Type 0 where
  pub number : ℕ
  pub bits : ℕ

abbrev pub rating : Speed → Rating
-- speed 1 sends 2,400 bits a second
rating Bits2400 = record { number = 1; bits = 2400 }
-- speed 2 sends 4,800
rating Bits4800 = record { number = 2; bits = 4800 }
-- speed 3 sends 9,600
rating Bits9600 = record { number = 3; bits = 9600 }
-- speed 4 sends 19,200
rating Bits19200 = record { number = 4; bits = 19200 }
-- speed 5 sends 50,000
rating Bits50000 = record { number = 5; bits = 50000 }
-- speed 6 sends 56,000
rating Bits56000 = record { number = 6; bits = 56000 }
-- speed 7 sends 64,000
rating Bits64000 = record { number = 7; bits = 64000 }
-- speed 8 sends 230,400
rating Bits230400 = record { number = 8; bits = 230400 }

-- the number of a speed
abbrev pub number_of : Speed → ℕ
number_of s = (rating s).number

-- the bits that a speed sends in a second
abbrev pub rate : Speed → ℕ
rate s = (rating s).bits

-- all speeds, as their numbers rise
abbrev pub speeds : List Speed
speeds = Bits2400 ∷ Bits4800 ∷ Bits9600 ∷ Bits19200 ∷ Bits50000 ∷ Bits56000 ∷ Bits64000 ∷ Bits230400 ∷ []

-- the speed that has a number; none if no speed has it
abbrev pub numbered : ℕ → Option Speed
numbered n = find (λ s. number_of s == n) speeds
