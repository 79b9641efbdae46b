-- What some messages make of a record, from what they do one by one. Assumes nothing.
use Rattle.std.proofs.Common.{◌≡◌, List, [], ◌∷◌, ◌++◌, refl, ap, ◌∙◌}
use Rattle.line.specs.Moves.{State, moved, moved_by, Shown, shown, after_message, after_messages}
use Rattle.line.specs.Courses.{Passed}
use Rattle.line.specs.declared.messages.Message.{Message}
use Rattle.line.specs.declared.states.Record.{Record}
use Rattle.line.proofs.Phases.{course, counts}
use Rattle.line.proofs.Stories.{whole}

moved_push : (s : State) (ms : List Message) (m : Message) → moved (moved_by s ms) m ≡ moved_by s (ms ++ m ∷ [])
moved_push s [] m = refl
moved_push s (n ∷ ms) m = moved_push (moved s n) ms m

pub more : (from : Record) (ms : List Message) (m : Message) (r : Record) → shown r ≡ after_messages (shown from) ms → after_message (shown r) m ≡ after_messages (shown from) (ms ++ m ∷ [])
more from ms m r e =
    ap (λ (s : Shown). after_message s m) e ∙ ap (λ (s : State). record { slot = (shown from).slot; neighbour = (shown from).neighbour; state = s }) (moved_push (shown from).state ms m)

pub passed : (from : Record) (ms : List Message) (to : Record) → shown to ≡ after_messages (shown from) ms → Passed from ms to
passed from ms to e = record { run = e; course = course from ms (shown to) e; whole = whole from ms (shown to) e; counts = counts to }
