-- The time that a line takes to send a packet, in units of 0.1 ms.
use Rattle.std.specs.Prelude.{ℕ, ◌+◌, ◌-◌, ◌*◌, ◌/◌, ◌≤◌}
use Rattle.timing.specs.declared.speed.Speed.{Speed}
use Rattle.timing.specs.declared.speed.Speed.TheVariants.{Bits2400}
use Rattle.timing.specs.Limits.{longest}
use Rattle.timing.specs.Speeds.{rate}

-- the bits of a packet of that many words: a word has 16
abbrev pub bits_of : ℕ → ℕ
bits_of words = words * 16

-- in t units the line sends the packet: t × speed is at least bits × 10,000
abbrev pub Enough : Speed → ℕ → ℕ → Type 0
Enough speed words t = bits_of words * 10000 ≤ t * rate speed

-- t is the smallest time that is enough
pub record Least (speed : Speed) (words t : ℕ) : Type 0 where
  pub enough : Enough speed words t
  pub least : (u : ℕ) → Enough speed words u → t ≤ u

-- the same time, computed: bits × 10,000 divided by the speed, rounded up
abbrev pub sending_time : Speed → ℕ → ℕ
sending_time speed words = (bits_of words * 10000 + (rate speed - 1)) / rate speed

-- the longest of all sending times: that of 64 words at 2,400 bits a second
abbrev pub longest_time : ℕ
longest_time = sending_time Bits2400 longest
