-- What the rows of the table speak of.
use Rattle.std.specs.Prelude.{ℕ, zero, suc, Bool, true, false, if◌then◌else◌, List, [], ◌∷◌, Some, ◌==◌}
use Rattle.std.specs.List.{list_any}
use Rattle.entries.specs.declared.entry.Entry.{Entry}
use Rattle.line.specs.Messages.{clear}
use Rattle.line.specs.Moves.{State, down, ready, up, moved_by}
use Rattle.line.specs.declared.messages.Message.{Message}
use Rattle.line.specs.declared.messages.Message.TheVariants.{Heard, Missed}
use Rattle.ports.specs.Held.{Held}
use Rattle.rows.specs.Rows.{no_row}
use Rattle.timing.specs.declared.speed.Speed.TheVariants.{Bits64000}

-- So many messages, counted from the first: those whose number is listed were missed, the others heard.
abbrev pub missing : List ℕ → ℕ → ℕ → List Message
missing ns first zero = []
missing ns first (suc n) = (if list_any (λ n. n == first) ns then Missed else Heard) ∷ missing ns (suc first) n

-- A line is Down.
abbrev pub is_down : State → Bool
is_down (down n) = true
is_down (ready w) = false
is_down (up w) = false

-- A line is Down so many messages after Ready, those of the listed numbers having been missed.
abbrev pub down_after : List ℕ → ℕ → Bool
down_after ns n = is_down (moved_by (ready clear) (missing ns 1 n))

-- An entry with this serial and age, and no lines.
abbrev pub holding : ℕ → ℕ → Entry
holding serial age = record { serial = serial; age = age; row = no_row }

-- The ports of node 1 of 4 with one up slot, to node 2, that reported a figure; one delay was noted, which is then the average.
abbrev pub measured : ℕ → ℕ → ℕ → Held
measured threshold reported average =
    record {
      count = 4;
      root = 1;
      slots = Some (record { neighbour = 2; speed = Bits64000; propagation = 0; noted = record { sum = average; count = 1 }; reported = reported }) ∷ [];
      threshold = threshold;
    }
