-- One line more in a row. Assumes nothing.
use Rattle.std.specs.Prelude.{◌+◌, Bool, if◌then◌else◌, List, [], ◌∷◌, ◌++◌, nat_lt, slice_set}
use Rattle.wire.specs.declared.lines.Line.{Line}
use Rattle.rows.specs.declared.row.Row.{Row}
use Rattle.rows.specs.Rows.{lines_in}

-- A row has room for a line while it has fewer than 8.
abbrev pub has_room : Row → Bool
has_room row = nat_lt row.used 8

-- The row with the line put behind its lines; a full row stays as it is.
abbrev pub pushed : Row → Line → Row
pushed row line = if has_room row then record { lines = slice_set row.lines row.used line; used = row.used + 1 } else row

-- The lines of a row after that: this line behind them, where there was room.
abbrev pub lines_with : Row → Line → List Line
lines_with row line = if has_room row then lines_in row ++ line ∷ [] else lines_in row
