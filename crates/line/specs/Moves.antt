-- What a record says, and how the events move it.
use Rattle.std.specs.Prelude.{ℕ, ◌+◌, Bool, true, false, if◌then◌else◌, List, [], ◌∷◌, Some, None, Option, Ok, Err, Result, ◌==◌, codes}
use Rattle.line.specs.Messages.{clear}
use Rattle.line.specs.Windows.{pushed, held}
use Rattle.line.specs.declared.messages.Message.{Message}
use Rattle.line.specs.declared.messages.Message.TheVariants.{Heard, Missed}
use Rattle.line.specs.declared.states.Record.{Record}
use Rattle.line.specs.declared.states.Record.TheVariants as record_of
use Rattle.line.specs.declared.states.Down.{Down}
use Rattle.line.specs.declared.states.Up.{Up}
use Rattle.line.specs.declared.states.Watch.{Watch}

-- The state of a line.
pub data State : Type 0 where
  -- Down, with so many messages heard in a row.
  down : ℕ → State
  -- Ready, with the last 20 messages.
  ready : List Message → State
  -- Up, with the last 20 messages.
  up : List Message → State

-- What a record says: which line it is of, and the state of that line.
pub record Shown : Type 0 where
  pub slot : ℕ
  pub neighbour : ℕ
  pub state : State

-- What the watch over a good line says, in a state that has the last 20 messages.
abbrev pub watching : (List Message → State) → Watch → Shown
watching in-state w = record { slot = w.ends.slot; neighbour = w.ends.neighbour; state = in-state (held w.window) }

-- What a record in each state says.
abbrev pub shown : Record → Shown
-- A record in Down has the count of messages heard in a row.
shown (record_of.Down d) = record { slot = d.ends.slot; neighbour = d.ends.neighbour; state = down d.heard }
-- A record in Ready has the last 20 messages.
shown (record_of.Ready d) = watching ready d.watch
-- A record in Up has the last 20 messages.
shown (record_of.Up d) = watching up d.watch

-- The name of a state.
abbrev pub state_text : State → List ℕ
state_text (down n) = codes "down"
state_text (ready w) = codes "ready"
state_text (up w) = codes "up"

-- A record in Down with no message heard, of this slot and this neighbour.
abbrev pub fresh : ℕ → ℕ → Shown
fresh s n = record { slot = s; neighbour = n; state = down 0 }

-- A line that stays in its state with these last 20 messages, or goes Down with no message heard where there are none.
abbrev pub keeping : (List Message → State) → Option (List Message) → State
keeping in-state None = down 0
keeping in-state (Some w) = in-state w

-- What one more message leaves of a good line: the watch over it goes on, or it is Down.
abbrev pub watched : (List Message → State) → Result Watch Down → Shown
watched in-state (Ok w) = watching in-state w
watched in-state (Err d) = shown (record_of.Down d)

-- The state after one more message.
abbrev pub moved : State → Message → State
-- In Down a message heard counts, and the 30th in a row makes the line Ready, with none of the last 20 missed.
moved (down n) Heard = if n + 1 == 30 then ready clear else down (n + 1)
-- In Down a message missed ends the row.
moved (down n) Missed = down 0
-- In Ready a message joins the last 20.
moved (ready w) m = keeping ready (pushed w m)
-- In Up a message joins the last 20.
moved (up w) m = keeping up (pushed w m)

-- The state after some messages.
abbrev pub moved_by : State → List Message → State
moved_by s [] = s
moved_by s (m ∷ ms) = moved_by (moved s m) ms

-- The record after one more message: it stays with its line.
abbrev pub after_message : Shown → Message → Shown
after_message s m = record { slot = s.slot; neighbour = s.neighbour; state = moved s.state m }

-- The record after some messages: it stays with its line.
abbrev pub after_messages : Shown → List Message → Shown
after_messages s ms = record { slot = s.slot; neighbour = s.neighbour; state = moved_by s.state ms }

-- What the other end's word leaves: the record, and whether a notice to that end is due.
pub record Outcome : Type 0 where
  pub says : Shown
  pub notice : Bool

-- What each answer to the other end's word says.
abbrev pub outcome : Result Up Record → Outcome
-- The record is in Up, and a notice is due.
outcome (Ok u) = record { says = shown (record_of.Up u); notice = true }
-- The record is this one, and no notice is due.
outcome (Err r) = record { says = shown r; notice = false }

-- The state after the other end's word that it is not Down.
abbrev pub confirmed : State → State
-- In Down the word changes nothing.
confirmed (down n) = down n
-- Ready becomes Up, and the last 20 messages are kept.
confirmed (ready w) = up w
-- In Up the word changes nothing.
confirmed (up w) = up w

-- Whether that word makes a notice to the other end due.
abbrev pub notice_due : State → Bool
-- In Down no notice is due.
notice_due (down n) = false
-- In Ready a notice is due.
notice_due (ready w) = true
-- In Up no notice is due.
notice_due (up w) = false

-- What the other end's word that it is not Down leaves of a record: it stays with its line.
abbrev pub after_word : Shown → Outcome
after_word s = record { says = record { slot = s.slot; neighbour = s.neighbour; state = confirmed s.state }; notice = notice_due s.state }
