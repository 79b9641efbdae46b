-- The laws of a period, over the list of all delays that were noted in it, the last one first.
use Rattle.std.specs.Prelude.{◌≡◌, ℕ, ◌+◌, ◌*◌, ◌<◌, ◌≤◌, List, ◌∷◌, length, sum, Some, None, Option}
use Rattle.timing.specs.declared.tally.Tally.{Tally}
use Rattle.timing.specs.Limits.{fullest}

-- a tally has the sum and the number of these delays
pub record Tallies (delays : List ℕ) (t : Tally) : Type 0 where
  pub adds : t.sum ≡ sum delays
  pub counts : t.count ≡ length delays

-- what becomes of the tally of some delays when one more is noted
abbrev pub NotedAfter : List ℕ → ℕ → Option Tally → Type 0
-- there is none: they were 65,535 already
NotedAfter delays delay None = length delays ≡ fullest
-- it is the tally of all of them
NotedAfter delays delay (Some t) = Tallies (delay ∷ delays) t

-- a is the whole part of the mean: a times their number is at most their sum, and a + 1 times it is more
pub record Mean (delays : List ℕ) (a : ℕ) : Type 0 where
  pub low : a * length delays ≤ sum delays
  pub high : sum delays < (a + 1) * length delays

-- a is the average of a period: the resting delay if there were no delays, else the whole part of their mean
pub record Averages (delays : List ℕ) (resting a : ℕ) : Type 0 where
  pub idle : length delays ≡ 0 → a ≡ resting
  pub busy : 0 < length delays → Mean delays a
