-- What a node holds of its own lines.
use Rattle.std.specs.Prelude.{ℕ, ◌-◌, Bool, ◌&&◌, List, map, replicate, None, if◌then◌else◌, nat_le, slice_index_or, slice_set}
use Rattle.slots.specs.Slots.{State, shown}
use Rattle.slots.specs.Thresholds.{threshold_of, first}
use Rattle.ports.specs.declared.ports.Ports.{Ports}

-- The count of the network's nodes, the root, the slots from the first, and the threshold.
pub record Held : Type 0 where
  pub count : ℕ
  pub root : ℕ
  pub slots : List State
  pub threshold : ℕ

-- What the ports hold, as plain numbers.
abbrev pub held : Ports → Held
held p = record { count = p.count; root = p.root; slots = map shown p.slots; threshold = threshold_of p.threshold }

-- At first all eight slots are unused, and the threshold is 640.
abbrev pub fresh : ℕ → ℕ → Held
fresh count root = record { count = count; root = root; slots = replicate 8 None; threshold = first }

-- Slots are numbered 1 to 8.
abbrev pub is_slot : ℕ → Bool
is_slot s = nat_le 1 s && nat_le s 8

-- The slot of a number; unused where no slot has it.
abbrev pub slot_at : List State → ℕ → State
slot_at slots s = if is_slot s then slice_index_or slots (s - 1) None else None

-- The slot of a number replaced, and nothing else.
abbrev pub put : ℕ → State → Held → Held
put s x h = record h { slots = slice_set h.slots (s - 1) x }
