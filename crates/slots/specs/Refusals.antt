-- The numbers of the refusals, and what "the first no decides" means.
use Rattle.std.specs.Prelude.{ℕ, Bool, if◌then◌else◌, Some, None, Ok, Err, Option, Result}
use Rattle.slots.specs.declared.refusal.Refusal.{Refusal}
use Rattle.slots.specs.declared.refusal.Refusal.TheVariants as refusal

-- The number of each refusal.
abbrev pub number_of : Refusal → ℕ
-- The slot does not lie in 1 to 8.
number_of refusal.SlotOutOfRange = 21
-- The slot is not up.
number_of refusal.SlotNotUp = 22
-- The words do not lie in 1 to 64.
number_of refusal.WordsOutOfRange = 31
-- The packet was sent before it arrived.
number_of refusal.SentBeforeArrival = 32
-- The slot's count is 65,535 already.
number_of refusal.CountFull = 33
-- The neighbour's number exceeds the count.
number_of refusal.NeighbourBeyondCount = 35
-- The neighbour is the root.
number_of refusal.NeighbourIsRoot = 36
-- The slot is up already.
number_of refusal.SlotInUse = 37
-- Another slot is up to that neighbour.
number_of refusal.NeighbourServed = 38
-- The speed's number does not lie in 1 to 8.
number_of refusal.SpeedUnknown = 39
-- The propagation exceeds 20,000.
number_of refusal.PropagationTooLong = 40

-- A question: on yes what follows decides, on no the refusal.
abbrev pub ask : {X : Type 0} → Bool → Refusal → Result X Refusal → Result X Refusal
ask answer refused next = if answer then next else Err refused

-- A question whose yes brings a value, which what follows goes on with.
abbrev pub given : {X Y : Type 0} → Option Y → Refusal → (Y → Result X Refusal) → Result X Refusal
given None refused next = Err refused
given (Some y) refused next = next y

-- Questions that bring a value, and then further ones that go on with it.
abbrev pub after : {X Y : Type 0} → Result Y Refusal → (Y → Result X Refusal) → Result X Refusal
after (Err refused) next = Err refused
after (Ok y) next = next y

-- What comes of a value, where there is no refusal.
abbrev pub on_ok : {X Y : Type 0} → (X → Y) → Result X Refusal → Result Y Refusal
on_ok f (Ok x) = Ok (f x)
on_ok f (Err refused) = Err refused

-- What a call leaves: a refusal changes nothing.
abbrev pub kept : {X : Type 0} → X → Result X Refusal → X
kept old (Ok new) = new
kept old (Err refused) = old
