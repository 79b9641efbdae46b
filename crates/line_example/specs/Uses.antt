-- What a record gives to who raises its slot.
use Rattle.std.specs.Prelude.{ℕ, Some, None, Option}
use Rattle.line.specs.Moves.{State, down, ready, up, Shown}

-- These two numbers if the state is Up, else none.
abbrev pub in_up : State → ℕ × ℕ → Option (ℕ × ℕ)
in_up (down n) line = None
in_up (ready w) line = None
in_up (up w) line = Some line

-- The slot and the neighbour of a record in Up.
abbrev pub raisable_line : Shown → Option (ℕ × ℕ)
raisable_line s = in_up s.state (s.slot, s.neighbour)
