-- Which reports are sent again on a slot.
use Rattle.std.specs.Prelude.{◌≡◌, ℕ, ◌-◌, ◌<◌, ◌≤◌, Bool, if◌then◌else◌, ◌&&◌, List, ◌++◌, length, drop, Ok, Err, filter, Result, ◌==◌, codes, nat_le, nat_lt, slice_index}
use Rattle.std.specs.Fmt.{decimal}
use Rattle.std.specs.List.{range_with_len, Contains}
use Rattle.database.specs.States.{State, held, age_of}
use Rattle.retransmit.specs.declared.resending.ResendFault.{ResendFault}
use Rattle.retransmit.specs.declared.resending.ResendFault.TheVariants as fault
use Rattle.retransmit.specs.Timers.{timer, every_timer}

-- The number of each refusal.
abbrev pub resend_number : ResendFault → ℕ
resend_number fault.Slot = 21
resend_number fault.List = 28

-- What a refusal prints: its number.
abbrev pub resend_text : ResendFault → List ℕ
resend_text f = codes "refused " ++ decimal (resend_number f)

-- A timer becomes 0 while the report is in force.
abbrev pub runs_out : ℕ → ℕ → Bool
runs_out left age = left == 1 && nat_lt 0 age

-- A timer above 0 is lowered by 1; where it becomes 0 while the report is in force, it is 3 again.
abbrev pub lowered : ℕ → ℕ → ℕ
lowered left age = if runs_out left age then 3 else left - 1

-- The same for the report of this origin.
abbrev pub lowered_for : State → ℕ → ℕ → ℕ
lowered_for db origin left = lowered left (age_of db origin)

-- The timers after a resending on a slot; those of the other slots stay.
abbrev pub resent : State → ℕ → List (List ℕ) → List (List ℕ)
resent db slot ts = every_timer (λ s o. if s == slot then lowered_for db o (timer ts s o) else timer ts s o)

-- The report of an origin is to be sent again, by the timers of one slot.
abbrev pub due_by : State → List ℕ → ℕ → Bool
due_by db timers origin = runs_out (slice_index timers (origin - 1)) (age_of db origin)

-- The origins whose report is to be sent again by these, in rising order.
unfoldable pub due_in : State → List ℕ → List ℕ
due_in db timers = filter (due_by db timers) (range_with_len 1 64)

-- The report of an origin is to be sent again on a slot.
abbrev pub due : State → ℕ → List (List ℕ) → ℕ → Bool
due db slot ts origin = runs_out (timer ts slot origin) (age_of db origin)

-- The origins whose report is to be sent again on a slot, in rising order.
unfoldable pub due_on : State → ℕ → List (List ℕ) → List ℕ
due_on db slot ts = filter (due db slot ts) (range_with_len 1 64)

-- Slot in 1 to 8? List at least count long? The first no decides.
abbrev pub asked : {X : Type 0} → State → ℕ → List ℕ → X → Result X ResendFault
asked db slot list x = if nat_le 1 slot && nat_le slot 8 then (if nat_le db.count (length list) then Ok x else Err fault.List) else Err fault.Slot

-- What comes where both are answered yes, and what stays where not.
abbrev pub or_else : {X Y : Type 0} → Result X Y → X → X
or_else (Ok x) old = x
or_else (Err e) old = old

-- A resending answers how many origins it listed,
abbrev pub resend_answer : State → ℕ → List (List ℕ) → List ℕ → Result ℕ ResendFault
resend_answer db slot ts list = asked db slot list (length (due_on db slot ts))

-- leaves these timers,
abbrev pub resend_timers : State → ℕ → List (List ℕ) → List ℕ → List (List ℕ)
resend_timers db slot ts list = or_else (asked db slot list (resent db slot ts)) ts

-- and puts the origins at the start of the list, whose rest stays; a refusal changes nothing.
abbrev pub resend_list : State → ℕ → List (List ℕ) → List ℕ → List ℕ
resend_list db slot ts list = or_else (asked db slot list (due_on db slot ts ++ drop (length (due_on db slot ts)) list)) list

-- The timer of an origin ran out on the slot while its report was in force.
abbrev pub RanOut : State → ℕ → List (List ℕ) → ℕ → Type 0
RanOut db slot ts origin = (1 ≤ origin) × (origin ≤ db.count) × (timer ts slot origin ≡ 1) × (1 ≤ (held db origin).age)

-- A list has just the origins whose timer ran out, and each of them once, in rising order.
pub record Exactly (db : State) (slot : ℕ) (ts : List (List ℕ)) (list : List ℕ) : Type 0 where
  pub only : (origin : ℕ) → Contains list origin → RanOut db slot ts origin
  pub all : (origin : ℕ) → RanOut db slot ts origin → Contains list origin
  pub rising : (i j : ℕ) → i < j → j < length list → slice_index list i < slice_index list j
