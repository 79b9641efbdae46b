-- Lists of test messages, the oldest first.
use Rattle.std.specs.Prelude.{ℕ, suc, ◌-◌, Bool, if◌then◌else◌, ◌&&◌, List, [], ◌∷◌, length, drop, replicate, ◌==◌, nat_le}
use Rattle.line.specs.declared.messages.Message.{Message}
use Rattle.line.specs.declared.messages.Message.TheVariants.{Heard, Missed}

-- How many of some messages were missed.
abbrev pub misses : List Message → ℕ
misses [] = 0
misses (Heard ∷ ms) = misses ms
misses (Missed ∷ ms) = suc (misses ms)

-- The last n of some messages: all of them, while fewer have come.
abbrev pub last : ℕ → List Message → List Message
last n ms = drop (length ms - n) ms

-- How many messages at the end of a list were heard in a row.
abbrev pub row : List Message → ℕ
row [] = 0
row (m ∷ ms) = if misses (m ∷ ms) == 0 then length (m ∷ ms) else row ms

-- Three or more of the last 20 messages were missed.
abbrev pub failing : List Message → Bool
failing ms = nat_le 3 (misses (last 20 ms))

-- At least 30 messages have come, and the last 30 were all heard.
abbrev pub steady : List Message → Bool
steady ms = nat_le 30 (length ms) && misses (last 30 ms) == 0

-- The last 20 messages as they start at Ready: none missed.
abbrev pub clear : List Message
clear = replicate 20 Heard
