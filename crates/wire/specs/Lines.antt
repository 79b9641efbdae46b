-- Lines, and the bytes that hold them.
use Rattle.std.specs.Prelude.{ℕ, ◌+◌, ◌*◌, ◌/◌, ◌%◌, List, [], ◌∷◌}
use Rattle.std.specs.List.{flat_map}
use Rattle.wire.specs.declared.lines.Line.{Line}

-- A line takes three bytes: the neighbour, then the figure, most significant byte first.
abbrev pub line_bytes : Line → List ℕ
line_bytes x = x.neighbour ∷ x.figure / 256 ∷ x.figure % 256 ∷ []

-- The bytes of all lines, one after the other.
abbrev pub pair_bytes : List Line → List ℕ
pair_bytes xs = flat_map line_bytes xs

-- The figure in two bytes, most significant first.
abbrev pub figure_of : ℕ → ℕ → ℕ
figure_of high low = high * 256 + low

-- The lines that bytes hold, three bytes to a line.
abbrev pub lines_of : List ℕ → List Line
lines_of [] = []
lines_of (n ∷ []) = []
lines_of (n ∷ (h ∷ [])) = []
lines_of (n ∷ (h ∷ (l ∷ rest))) = record { neighbour = n; figure = figure_of h l } ∷ lines_of rest
