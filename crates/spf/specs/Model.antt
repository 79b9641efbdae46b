-- The map that a value of the type `Map` holds. Assumes nothing.
use Rattle.spf.specs.declared.map.Map.{Map as Held}
use Rattle.spf.specs.Maps.{Map}
use Rattle.spf.specs.Rows.{map_from}

-- Its count, and the figures of its rows.
abbrev pub map_of : Held → Map
map_of held = map_from held.count held.rows
