-- The law of a record's states over any list of messages, told without its steps.
use Rattle.std.specs.Prelude.{◌≡◌, ℕ, ◌<◌, ◌≤◌, Bool, true, false, List, ◌++◌, length, take, count_ones}
use Rattle.line.specs.Messages.{misses, last, row, failing, steady, clear}
use Rattle.line.specs.Windows.{held}
use Rattle.line.specs.Moves.{State, down, ready, up, shown, after_messages}
use Rattle.line.specs.declared.messages.Message.{Message}
use Rattle.line.specs.declared.states.Record.{Record}
use Rattle.line.specs.declared.states.Record.TheVariants as record_of

-- ---- from state to state

-- At none of the messages ms, which came after the messages h, the test holds.
abbrev pub Never : (List Message → Bool) → List Message → List Message → Type 0
Never test h ms = (k : ℕ) → 0 < k → k ≤ length ms → test (h ++ take k ms) ≡ false

-- The last of the messages ms, which came after the messages h, is the first at which the test holds.
abbrev pub FirstAtLast : (List Message → Bool) → List Message → List Message → Type 0
FirstAtLast test h ms = (0 < length ms) × (test (h ++ ms) ≡ true) × ((k : ℕ) → 0 < k → k < length ms → test (h ++ take k ms) ≡ false)

-- What ends a state, seen from the messages since it began.
abbrev pub ending : State → List Message → Bool
-- Down ends as the last 30 messages were all heard.
ending (down n) = steady
-- Ready ends as three or more of the last 20 messages were missed.
ending (ready w) = failing
-- Up ends as Ready does.
ending (up w) = failing

-- The state that begins where a state ends.
abbrev pub following : State → State
-- After Down comes Ready, with none of the last 20 missed.
following (down n) = ready clear
-- After Ready comes Down, with no message heard.
following (ready w) = down 0
-- After Up comes the same.
following (up w) = down 0

-- The last 20 messages, the messages h having come since Ready: at Ready they start clear.
abbrev pub since_ready : List Message → List Message
since_ready h = last 20 (clear ++ h)

-- A state, the messages h having come since it began (for Up, since Ready).
abbrev pub having : State → List Message → State
-- Down has the count of those heard in a row at the end.
having (down n) h = down (row h)
-- Ready has the last 20.
having (ready w) h = ready (since_ready h)
-- Up has the last 20.
having (up w) h = up (since_ready h)

-- The messages h may be those since the state s began: it is as they leave it.
abbrev pub Since : List Message → State → Type 0
Since h s = s ≡ having s h

-- With the messages h since s began, ms lead from s to t: if what ends s holds at none of them, s goes on; if at the last of them for the first time, the state that follows has begun.
abbrev pub Leads : List Message → State → List Message → State → Type 0
Leads h s ms t = (Never (ending s) h ms → t ≡ having s (h ++ ms)) × (FirstAtLast (ending s) h ms → t ≡ following s)

-- Some messages may be those since s began, and with any such the messages ms lead from s to t.
abbrev pub Course : State → List Message → State → Type 0
Course s ms t = ((h : List Message) × Since h s) × ((h : List Message) → Since h s → Leads h s ms t)

-- ---- the mask

-- The ones of a mask are the misses among the last 20 of the messages since Ready, or among all of them while fewer have come.
abbrev pub CountsSince : ℕ → List Message → Type 0
CountsSince mask w = (h : List Message) → w ≡ since_ready h → count_ones mask ≡ misses (last 20 h)

-- The mask of a record counts the misses.
abbrev pub Counts : Record → Type 0
-- In Down there is no mask.
Counts (record_of.Down d) = Unit {0}
-- In Ready the mask counts.
Counts (record_of.Ready d) = CountsSince d.watch.window.missed (held d.watch.window)
-- In Up it counts as it did in Ready.
Counts (record_of.Up d) = CountsSince d.watch.window.missed (held d.watch.window)

-- ---- the whole story of a record

-- At one of the messages ms the last 30 were all heard, and at none from there on three or more of the last 20 were missed.
abbrev pub Good : List Message → Type 0
Good ms = (k : ℕ) × (k ≤ length ms) × (steady (take k ms) ≡ true) × ((j : ℕ) → k ≤ j → j ≤ length ms → failing (take j ms) ≡ false)

-- The state after all the messages ms since the record was made, or since it went Down, with no word of the other end.
abbrev pub Story : List Message → State → Type 0
-- In Down the line is not good, and the record has the count of messages heard in a row.
Story ms (down n) = (n ≡ row ms) × (Good ms → ⊥)
-- In Ready the line is good, and the record has the last 20 messages.
Story ms (ready w) = (w ≡ last 20 ms) × Good ms
-- In Up it is only after a word of the other end.
Story ms (up w) = ⊥

-- The story of a record that is in Down with no message heard.
abbrev pub Whole : State → List Message → State → Type 0
Whole s ms t = s ≡ down 0 → Story ms t

-- ---- all of it

-- The messages ms passed between two records: what holds of the two.
pub record Passed (from : Record) (ms : List Message) (to : Record) : Type 0 where
  -- What they do one by one.
  pub run : shown to ≡ after_messages (shown from) ms
  pub course : Course (shown from).state ms (shown to).state
  pub whole : Whole (shown from).state ms (shown to).state
  pub counts : Counts to
