-- Rows of lines as a map. Assumes nothing.
use Rattle.std.specs.Prelude.{ℕ, zero, suc, Bool, true, if◌then◌else◌, ◌&&◌, List, [], ◌∷◌, ◌==◌, nat_le, slice_index_or}
use Rattle.wire.specs.declared.lines.Line.{Line}
use Rattle.rows.specs.declared.row.Row.{Row}
use Rattle.rows.specs.Rows.{lines_in, no_row, allowed_row, figures_fit}
use Rattle.spf.specs.Maps.{Map}

-- The row of a node within the count is one that may leave it, and its figures fit; past the count a row has no lines.
abbrev pub allowed_at : ℕ → ℕ → Row → Bool
allowed_at count node row = if nat_le node count then allowed_row count node row && figures_fit (lines_in row) else (row.used == 0)

-- All rows are so, from this node on.
abbrev pub allowed_rows : ℕ → ℕ → List Row → Bool
allowed_rows count node [] = true
allowed_rows count node (row ∷ rows) = allowed_at count node row && allowed_rows count (suc node) rows

-- The figure of the line to a node among some lines, 0 where there is none.
abbrev pub figure_to : ℕ → List Line → ℕ
figure_to v [] = 0
figure_to v (x ∷ xs) = if x.neighbour == v then x.figure else figure_to v xs

-- The figure of the line from one node to another, 0 where there is none.
abbrev pub figures : List Row → ℕ → ℕ → ℕ
figures rows zero v = 0
figures rows (suc i) v = figure_to v (lines_in (slice_index_or rows i no_row))

-- The map of so many nodes with these rows.
abbrev pub map_from : ℕ → List Row → Map
map_from count rows = record { count = count; figure = figures rows }
