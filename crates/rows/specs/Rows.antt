-- The lines that leave one node, as a node keeps them. Assumes nothing.
use Rattle.std.specs.Prelude.{ℕ, Bool, true, not, ◌&&◌, List, [], ◌∷◌, take, replicate, ◌==◌, nat_le, nat_lt}
use Rattle.wire.specs.declared.lines.Line.{Line}
use Rattle.rows.specs.declared.row.Row.{Row}

-- The lines of a row are the first `used`.
abbrev pub lines_in : Row → List Line
lines_in row = take row.used row.lines

-- What stands where no line is.
abbrev pub no_line : Line
no_line = record { neighbour = 0; figure = 0 }

-- The row without a line.
abbrev pub no_row : Row
no_row = record { lines = replicate 8 no_line; used = 0 }

-- A line may leave this node of a network of so many, next after a line to `previous`: its neighbour lies above that one and within the count and is not the node itself, and its figure is not 0.
abbrev pub allowed_line : ℕ → ℕ → ℕ → Line → Bool
allowed_line count node previous x =
    nat_lt previous x.neighbour && (nat_le x.neighbour count && (not (x.neighbour == node) && not (x.figure == 0)))

-- Lines may leave this node of a network of so many: neighbours rise strictly from above `previous` to at most the count and leave the node itself out, and no figure is 0.
abbrev pub allowed : ℕ → ℕ → ℕ → List Line → Bool
allowed count node previous [] = true
allowed count node previous (x ∷ xs) = allowed_line count node previous x && allowed count node x.neighbour xs

-- A row may be the row of this node: at most 8 lines, and these may leave it.
abbrev pub allowed_row : ℕ → ℕ → Row → Bool
allowed_row count node row = nat_le row.used 8 && allowed count node 0 (lines_in row)

-- No figure passes 65,535. Of lines in memory this holds by their type; here it is said of lines as such.
abbrev pub figures_fit : List Line → Bool
figures_fit [] = true
figures_fit (x ∷ xs) = nat_le x.figure 65535 && figures_fit xs
