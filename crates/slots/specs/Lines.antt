-- What single calls do to the line of an up slot.
use Rattle.std.specs.Prelude.{ℕ, Bool, Ok, Result, option_map, if◌then◌else◌}
use Rattle.timing.specs.declared.speed.Speed.{Speed}
use Rattle.timing.specs.declared.circuit.Circuit.{Circuit}
use Rattle.timing.specs.Limits.{longest, farthest}
use Rattle.timing.specs.Speeds.{numbered}
use Rattle.timing.specs.Ranges.{within, units_of}
use Rattle.timing.specs.Delays.{packet_delay, resting_delay}
use Rattle.timing.specs.Tallies.{nothing, noting, average_of}
use Rattle.slots.specs.Refusals.{given}
use Rattle.slots.specs.Slots.{UpLine, State}
use Rattle.slots.specs.declared.refusal.Refusal.{Refusal}
use Rattle.slots.specs.declared.refusal.Refusal.TheVariants as refusal

-- What a line's delays are computed from: its speed and its propagation.
pub record Supply : Type 0 where
  pub speed : Speed
  pub propagation : ℕ

-- The same of a circuit.
abbrev pub supply_of : Circuit → Supply
supply_of c = record { speed = c.speed; propagation = units_of c.propagation }

-- Speed in 1 to 8? Propagation at most 20,000?
abbrev pub supplied : ℕ → ℕ → Result Supply Refusal
supplied number propagation =
    given (numbered number) refusal.SpeedUnknown
    (λ v. given (within 0 farthest propagation) refusal.PropagationTooLong (λ p. Ok (record { speed = v; propagation = p })))

-- The line of a slot that is raised: nothing noted, and the resting figure as reported.
abbrev pub raised_line : ℕ → Supply → UpLine
raised_line neighbour c =
    record {
      neighbour = neighbour;
      speed = c.speed;
      propagation = c.propagation;
      noted = nothing;
      reported = resting_delay c.speed c.propagation;
    }

-- Words in 1 to 64? Sent not before arrived? Then this is the packet's delay on the line.
abbrev pub delayed : UpLine → ℕ → ℕ → ℕ → Result ℕ Refusal
delayed u arrived sent words =
    given (within 1 longest words) refusal.WordsOutOfRange
    (λ w. given (packet_delay u.speed u.propagation arrived sent w) refusal.SentBeforeArrival Ok)

-- Count below 65,535? Then the delay is added to the sum, and 1 to the count.
abbrev pub noted : UpLine → ℕ → Result UpLine Refusal
noted u delay =
    given (noting u.noted delay) refusal.CountFull
    (λ t. Ok (record u { noted = t }))

-- The average of the line's period: the resting figure if nothing was noted.
abbrev pub average : UpLine → ℕ
average u = average_of u.noted (resting_delay u.speed u.propagation)

-- The line as a new period begins: nothing noted, and after a report the average as reported figure.
abbrev pub begun_line : Bool → UpLine → UpLine
begun_line reported u = record u { noted = nothing; reported = if reported then average u else u.reported }

-- The slot as a new period begins.
abbrev pub begun : Bool → State → State
begun reported = option_map (begun_line reported)
