-- What a slot holds, as plain numbers.
use Rattle.std.specs.Prelude.{ℕ, Bool, Some, None, Option, ◌==◌, is_some, option_map, option_and_then, if◌then◌else◌}
use Rattle.timing.specs.declared.speed.Speed.{Speed}
use Rattle.timing.specs.Ranges.{units_of}
use Rattle.timing.specs.Tallies.{Totals, totals}
use Rattle.slots.specs.declared.port.Port.{Port}

-- The line of an up slot: the node at its other end, its speed and propagation, what was noted in this period, and the figure last reported.
pub record UpLine : Type 0 where
  pub neighbour : ℕ
  pub speed : Speed
  pub propagation : ℕ
  pub noted : Totals
  pub reported : ℕ

-- A slot is unused, or up with its line.
abbrev pub State : Type 0
State = Option UpLine

-- What is held of a line, as plain numbers.
abbrev pub line_of : Port → UpLine
line_of p =
    record {
      neighbour = p.neighbour;
      speed = p.circuit.speed;
      propagation = units_of p.circuit.propagation;
      noted = totals p.tally;
      reported = units_of p.reported;
    }

-- What a slot holds, as plain numbers.
abbrev pub shown : Option Port → State
shown = option_map line_of

-- The slot is up.
abbrev pub is_up : State → Bool
is_up = is_some

-- The neighbour of an up slot.
abbrev pub neighbour_of : State → Option ℕ
neighbour_of = option_map (λ u. u.neighbour)

-- The reported figure of a slot that is up to a node.
abbrev pub figure_for : ℕ → State → Option ℕ
figure_for n = option_and_then (λ u. if u.neighbour == n then Some u.reported else None)
