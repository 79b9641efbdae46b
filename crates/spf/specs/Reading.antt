-- What a map tells of its lines. Assumes nothing.
use Rattle.std.specs.Prelude.{ℕ, zero, suc, List, [], Some, None, Option, slice_index_or}
use Rattle.wire.specs.declared.lines.Line.{Line}
use Rattle.rows.specs.declared.row.Row.{Row}
use Rattle.rows.specs.Rows.{lines_in, no_row}

-- The lines that leave a node, of these rows; none for a number that is no node's.
abbrev pub lines_from : List Row → ℕ → List Line
lines_from rows zero = []
lines_from rows (suc i) = lines_in (slice_index_or rows i no_row)

-- A figure, absent where it is 0: there is no line then.
abbrev pub shown_figure : ℕ → Option ℕ
shown_figure zero = None
shown_figure (suc f) = Some (suc f)
