-- The timers of all slots and origins, and what sets them.
use Rattle.std.specs.Prelude.{ℕ, ◌-◌, Bool, false, if◌then◌else◌, ◌&&◌, List, [], map, replicate, Some, None, Option, ◌==◌, nat_le, slice_index, slice_index_or}
use Rattle.std.specs.List.{range_with_len}

-- The timers of a slot, 1 to 8: one for each origin.
abbrev pub timers_on : List (List ℕ) → ℕ → List ℕ
timers_on ts slot = slice_index_or ts (slot - 1) []

-- The timer of a slot and an origin, 1 to 64.
abbrev pub timer : List (List ℕ) → ℕ → ℕ → ℕ
timer ts slot origin = slice_index (timers_on ts slot) (origin - 1)

-- The timers of which each is what f gives for its slot and its origin.
unfoldable pub every_timer : (ℕ → ℕ → ℕ) → List (List ℕ)
every_timer f = map (λ slot. map (f slot) (range_with_len 1 64)) (range_with_len 1 8)

-- No report is to be sent again.
abbrev pub no_timers : List (List ℕ)
no_timers = replicate 8 (replicate 64 0)

-- There is a slot and an origin of these numbers.
abbrev pub placed : ℕ → ℕ → Bool
placed slot origin = (nat_le 1 slot && nat_le slot 8) && (nat_le 1 origin && nat_le origin 64)

-- The timer of a slot and an origin; 0 where there are none such.
abbrev pub timer_of : List (List ℕ) → ℕ → ℕ → ℕ
timer_of ts slot origin = if placed slot origin then timer ts slot origin else 0

-- The slot of arrival is this one.
abbrev pub arrived_on : Option ℕ → ℕ → Bool
arrived_on (Some a) slot = a == slot
arrived_on None slot = false

-- A timer after a flood: 0 on the slot of arrival, 3 on a slot of the set, and else as it was.
abbrev pub armed : Bool → Bool → ℕ → ℕ
armed arrived among old = if arrived then 0 else (if among then 3 else old)

-- The same for the slot of this number; a set says of each slot whether it is in it.
abbrev pub armed_on : List Bool → Option ℕ → ℕ → ℕ → ℕ
armed_on slots arrival slot old = armed (arrived_on arrival slot) (slice_index_or slots (slot - 1) false) old

-- Flooding a report of this origin over a set of slots arms its timer on each slot, and touches no other origin's.
abbrev pub flooded : ℕ → List Bool → Option ℕ → List (List ℕ) → List (List ℕ)
flooded origin slots arrival ts =
    every_timer (λ s o. if o == origin then armed_on slots arrival s (timer ts s o) else timer ts s o)

-- A duplicate on a slot shows that the report is there: that one timer becomes 0.
abbrev pub acknowledged : ℕ → ℕ → List (List ℕ) → List (List ℕ)
acknowledged slot origin ts = every_timer (λ s o. if s == slot && o == origin then 0 else timer ts s o)

-- Dropping a slot: all its timers become 0.
abbrev pub dropped : ℕ → List (List ℕ) → List (List ℕ)
dropped slot ts = every_timer (λ s o. if s == slot then 0 else timer ts s o)
