-- What is noted of a line in one period, and its average.
use Rattle.std.specs.Prelude.{ℕ, ◌+◌, ◌/◌, if◌then◌else◌, Some, None, Option, ◌==◌, nat_lt}
use Rattle.timing.specs.declared.tally.Tally.{Tally}
use Rattle.timing.specs.Limits.{fullest}

-- the sum of the delays that were noted, and how many they are
pub record Totals : Type 0 where
  pub sum : ℕ
  pub count : ℕ

-- what a tally holds, as plain numbers
abbrev pub totals : Tally → Totals
totals t = record { sum = t.sum; count = t.count }

-- a period begins with nothing noted
abbrev pub nothing : Totals
nothing = record { sum = 0; count = 0 }

-- noting adds a delay to the sum and 1 to the count; a full count takes no more
abbrev pub noting : Totals → ℕ → Option Totals
noting t delay = if nat_lt t.count fullest then Some (record { sum = t.sum + delay; count = t.count + 1 }) else None

-- the mean of some delays: their sum divided by their count, the fraction dropped
abbrev pub mean_of : ℕ → ℕ → ℕ
mean_of sum count = sum / count

-- the average of a period: the mean of its delays, or the resting delay if none was noted
abbrev pub average_of : Totals → ℕ → ℕ
average_of t resting = if t.count == 0 then resting else mean_of t.sum t.count
