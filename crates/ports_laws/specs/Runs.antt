-- Runs of calls on a node's ports.
use Rattle.std.specs.Prelude.{ℕ, Bool, List, [], ◌∷◌, Ok, Err, Result}
use Rattle.line.specs.declared.states.Up.{Up}
use Rattle.slots.specs.declared.refusal.Refusal.{Refusal}
use Rattle.slots.specs.Refusals.{on_ok, kept}
use Rattle.ports.specs.Held.{Held}
use Rattle.ports.specs.Rows.{reporting}
use Rattle.ports.specs.Calls.{slot_of, neighbour_in, raising, dropping, noting_on, leaves_of, delay_in}
use Rattle.ports.specs.Closing.{due, closing}

-- A call with its arguments.
pub data Call : Type 0 where
  -- Raising the slot of a record in Up, at a speed and a propagation.
  raise : Up → ℕ → ℕ → Call
  -- Dropping a slot.
  drop : ℕ → Call
  -- Noting on a slot that a packet arrived, was sent, and had so many words.
  note : ℕ → ℕ → ℕ → ℕ → Call
  -- Closing a period.
  close : Call
  -- An own report for another reason.
  report : Call

-- What is held after a call: a refused one changes nothing.
abbrev pub leaves : Call → Held → Held
leaves (raise line speed propagation) h = kept h (raising h (slot_of line) (neighbour_in line) speed propagation)
leaves (drop s) h = kept h (dropping h s)
leaves (note s arrived sent words) h = kept h (on_ok leaves_of (noting_on h s arrived sent words))
leaves close h = closing h
leaves report h = reporting h

-- What a call answered, as far as the laws speak of it.
pub data Answer : Type 0 where
  -- The slot is up, and an own report was made.
  raised : ℕ → Answer
  -- The slot is unused, and an own report was made.
  dropped : ℕ → Answer
  -- On the slot this delay was noted.
  noted : ℕ → ℕ → Answer
  -- The period was closed, and an own report was made or not.
  closed : Bool → Answer
  -- An own report was made.
  reported : Answer
  -- The call was refused.
  refused : Refusal → Answer

-- An answer where nothing was refused, else the refusal.
abbrev pub told : {X : Type 0} → (X → Answer) → Result X Refusal → Answer
told f (Ok x) = f x
told f (Err e) = refused e

-- What a call answers.
abbrev pub answer : Call → Held → Answer
answer (raise line speed propagation) h = told (λ _. raised (slot_of line)) (raising h (slot_of line) (neighbour_in line) speed propagation)
answer (drop s) h = told (λ _. dropped s) (dropping h s)
answer (note s arrived sent words) h = told (λ n. noted s (delay_in n)) (noting_on h s arrived sent words)
answer close h = closed (due h.threshold h.slots)
answer report h = reported

-- What is held after some calls, the last one first.
abbrev pub holds : Held → List Call → Held
holds h [] = h
holds h (call ∷ earlier) = leaves call (holds h earlier)

-- What some calls answered, the last one first.
abbrev pub answers : Held → List Call → List Answer
answers h [] = []
answers h (call ∷ earlier) = answer call (holds h earlier) ∷ answers h earlier
