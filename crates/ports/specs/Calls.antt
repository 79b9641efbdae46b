-- Raising, dropping and noting: the questions in their order, and what a call leaves.
use Rattle.std.specs.Prelude.{ℕ, not, List, Some, None, Result, ok_or, ◌==◌, nat_le}
use Rattle.line.specs.declared.states.Up.{Up}
use Rattle.line.specs.declared.states.Record.TheVariants as record_of
use Rattle.line.specs.Moves as moves
use Rattle.slots.specs.Refusals.{ask, after, on_ok}
use Rattle.slots.specs.Slots.{UpLine, State, is_up}
use Rattle.slots.specs.Lines.{supplied, raised_line, delayed, noted}
use Rattle.ports.specs.Held.{Held, is_slot, slot_at, put}
use Rattle.ports.specs.Rows.{served, reporting}
use Rattle.slots.specs.declared.refusal.Refusal.{Refusal}
use Rattle.slots.specs.declared.refusal.Refusal.TheVariants as refusal

-- The slot of a line record in Up.
abbrev pub slot_of : Up → ℕ
slot_of u = (moves.shown (record_of.Up u)).slot

-- The neighbour of a line record in Up.
abbrev pub neighbour_in : Up → ℕ
neighbour_in u = (moves.shown (record_of.Up u)).neighbour

-- Raising: neighbour within the count? Not the root? Slot unused? No other up slot to it? Speed in 1 to 8? Propagation at most 20,000? Then the slot is up, and an own report is made.
abbrev pub raising : Held → ℕ → ℕ → ℕ → ℕ → Result Held Refusal
raising h s neighbour speed propagation =
    ask (nat_le neighbour h.count) refusal.NeighbourBeyondCount
    (ask (not (neighbour == h.root)) refusal.NeighbourIsRoot
    (ask (not (is_up (slot_at h.slots s))) refusal.SlotInUse
    (ask (not (served neighbour h.slots)) refusal.NeighbourServed
    (on_ok (λ c. reporting (put s (Some (raised_line neighbour c)) h)) (supplied speed propagation)))))

-- Slot in 1 to 8? Slot up? Then this is its line.
abbrev pub up_line_at : List State → ℕ → Result UpLine Refusal
up_line_at slots s = ask (is_slot s) refusal.SlotOutOfRange (ok_or (slot_at slots s) refusal.SlotNotUp)

-- Dropping: slot in 1 to 8? Slot up? Then the slot is unused, and an own report is made.
abbrev pub dropping : Held → ℕ → Result Held Refusal
dropping h s = on_ok (λ _. reporting (put s None h)) (up_line_at h.slots s)

-- What a noting gives: what is held then, and the packet's delay.
pub record Noting : Type 0 where
  pub leaves : Held
  pub delay : ℕ

-- Noting: slot in 1 to 8? Slot up? Words in 1 to 64? Sent not before arrived? Count below 65,535? Then the delay is added to what was noted on the slot.
abbrev pub noting_on : Held → ℕ → ℕ → ℕ → ℕ → Result Noting Refusal
noting_on h s arrived sent words =
    after (up_line_at h.slots s) (λ u.
    after (delayed u arrived sent words) (λ d.
    on_ok (λ v. record { leaves = put s (Some v) h; delay = d }) (noted u d)))

-- What is held after a noting.
abbrev pub leaves_of : Noting → Held
leaves_of n = n.leaves

-- The delay that a noting answers.
abbrev pub delay_in : Noting → ℕ
delay_in n = n.delay
