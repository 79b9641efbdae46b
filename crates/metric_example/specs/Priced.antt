-- Delay with a price for each line. Assumes nothing.
use Rattle.std.specs.Prelude.{◌≡◌, ℕ, ◌+◌, ◌*◌, List, length, sum, nat_lt}
use Rattle.metric.specs.Meaning.{Meaning, along}
use Rattle.metric.specs.Metrics.{capped}

-- Each line adds its figure and the price.
abbrev pub priced : ℕ → Meaning
priced price = record { empty = 0; add = λ c f. capped (c + f + price); less = nat_lt }

-- A path of any length costs the sum of its figures and its lines x the price, within the 64-bit range.
abbrev pub SumsWithPrice : ℕ → Type 0
SumsWithPrice price = (figures : List ℕ) → along (priced price) figures ≡ capped (sum figures + length figures * price)
