-- How far the quantities reach.
use Rattle.std.specs.Prelude.{ℕ}

-- the most words that a packet has
abbrev pub longest : ℕ
longest = 64

-- the largest propagation of a line, in units of 0.1 ms
abbrev pub farthest : ℕ
farthest = 20000

-- the largest delay, in units of 0.1 ms: what took longer counts as this
abbrev pub largest : ℕ
largest = 65535

-- the most delays that are noted in one period
abbrev pub fullest : ℕ
fullest = 65535
