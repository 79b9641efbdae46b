-- The last 20 messages, and the mask that holds them.
use Rattle.std.specs.Prelude.{ℕ, zero, suc, ◌/◌, ◌%◌, if◌then◌else◌, List, [], ◌∷◌, ◌++◌, Some, None, Option}
use Rattle.line.specs.Messages.{last, failing}
use Rattle.line.specs.declared.messages.Message.{Message}
use Rattle.line.specs.declared.messages.Message.TheVariants.{Heard, Missed}
use Rattle.line.specs.declared.window.Window.{Window}

-- The last 20 messages with one more; none where three or more of them were missed.
abbrev pub pushed : List Message → Message → Option (List Message)
pushed w m = if failing (w ++ m ∷ []) then None else Some (last 20 (w ++ m ∷ []))

-- The bit that stands for a message: 1 if it was missed.
abbrev pub bit_of : Message → ℕ
bit_of Heard = 0
bit_of Missed = 1

-- The message that a bit stands for.
abbrev pub message_of : ℕ → Message
message_of zero = Heard
message_of (suc n) = Missed

-- The n messages that the lowest n bits of a mask stand for: the lowest bit is the newest message.
unfoldable pub held_in : ℕ → ℕ → List Message
held_in zero mask = []
held_in (suc n) mask = held_in n (mask / 2) ++ message_of (mask % 2) ∷ []

-- The 20 messages that a window holds.
abbrev pub held : Window → List Message
held w = held_in 20 w.missed

-- The same of a window that may be none.
abbrev pub held_of : Option Window → Option (List Message)
held_of None = None
held_of (Some w) = Some (held w)
