-- The slots of one node beside one another.
use Rattle.std.specs.Prelude.{◌≡◌, ℕ, ◌-◌, ◌≤◌, List, Some, None, Option, ◌≢◌, slice_index_or}
use Rattle.slots.specs.Slots.{State, neighbour_of}

-- The neighbour at a place, counted from 0.
abbrev pub neighbour_at : List State → ℕ → Option ℕ
neighbour_at slots i = neighbour_of (slice_index_or slots i None)

-- Lines go to other nodes of the network: numbers from 1 to the count, and not the root.
abbrev pub Within : ℕ → ℕ → List State → Type 0
Within count root slots = (i n : ℕ) → neighbour_at slots i ≡ Some n → (1 ≤ n) × (n ≤ count) × (n ≢ root)

-- Two places have slots that are up to the same neighbour.
abbrev pub Sharing : List State → ℕ → ℕ → Type 0
Sharing slots i j = (n : ℕ) × (neighbour_at slots i ≡ Some n) × (neighbour_at slots j ≡ Some n)

-- No two slots are up to the same neighbour.
abbrev pub Apart : List State → Type 0
Apart slots = (i j : ℕ) → Sharing slots i j → i ≡ j

-- A state goes with the other slots at a slot's number: its line goes to another node of the network, and no other slot is up to that.
abbrev pub Placeable : ℕ → ℕ → List State → ℕ → State → Type 0
Placeable count root slots number s =
    (n : ℕ) → neighbour_of s ≡ Some n → ((1 ≤ n) × (n ≤ count) × (n ≢ root)) × ((j : ℕ) → neighbour_at slots j ≡ Some n → j ≡ number - 1)
