-- How maps are made. Assumes nothing.
use Rattle.std.specs.Prelude.{◌≡◌, ℕ, ◌-◌, ◌<◌, Bool, if◌then◌else◌, ◌&&◌, ◌⊎◌, List, replicate, codes, Some, None, Ok, Err, Option, Result, ◌≢◌, nat_le, slice_set}
use Rattle.rows.specs.declared.row.Row.{Row}
use Rattle.rows.specs.Rows.{lines_in, no_row, allowed_row}
use Rattle.spf.specs.declared.making.MapFault.{MapFault}
use Rattle.spf.specs.declared.making.MapFault.TheVariants.{NoNode, NotAllowed}
use Rattle.spf.specs.declared.map.Map.{Map as Held}
use Rattle.spf.specs.Maps.{Map}
use Rattle.spf.specs.Rows.{figure_to}

-- What a fault says.
abbrev pub said_of : MapFault → List ℕ
said_of NoNode = codes "the number is no node's"
said_of NotAllowed = codes "the row may not be the node's"

-- What a map is made of: how many nodes there are, and the row of each of the numbers 1 to 64.
pub record Parts : Type 0 where
  pub count : ℕ
  pub rows : List Row

abbrev pub parts_of : Held → Parts
parts_of held = record { count = held.count; rows = held.rows }

-- A map of so many nodes without a line; there is none unless they are 1 to 64.
abbrev pub new_map : ℕ → Option Parts
new_map count = if nat_le 1 count && nat_le count 64 then Some (record { count = count; rows = replicate 64 no_row }) else None

-- This number is a node's.
abbrev pub is_node : Parts → ℕ → Bool
is_node map node = nat_le 1 node && nat_le node map.count

-- A row may be put in the place of the row of a node of the map, if it may leave that node.
abbrev pub replace_answer : Parts → ℕ → Row → Result (Unit {0}) MapFault
replace_answer map node row = if is_node map node then (if allowed_row map.count node row then Ok tt else Err NotAllowed) else Err NoNode

-- The map with the row in that place; else the map as it was.
abbrev pub replaced : Parts → ℕ → Row → Parts
replaced map node row =
    if is_node map node && allowed_row map.count node row then record { count = map.count; rows = slice_set map.rows (node - 1) row } else map

-- The law of a new map: it has the count, and no line leads anywhere; there is none if the count is not 1 to 64.
abbrev pub Bare : ℕ → Option Map → Type 0
Bare count None = (count < 1) ⊎ (64 < count)
Bare count (Some m) = (m.count ≡ count) × ((u v : ℕ) → m.figure u v ≡ 0)

-- The law of a row put in: from the node lead the lines of the row, from every other number the same lines as before, between as many nodes.
pub record Replaced (node : ℕ) (row : Row) (before after : Map) : Type 0 where
  pub count : after.count ≡ before.count
  pub here : (v : ℕ) → after.figure node v ≡ figure_to v (lines_in row)
  pub elsewhere : (u v : ℕ) → (u ≢ node) → after.figure u v ≡ before.figure u v
