-- The network of four.
use Rattle.std.specs.Prelude.{ℕ, List, [], ◌∷◌, length, Some}
use Rattle.wire.specs.declared.lines.Line.{Line}
use Rattle.rows.specs.declared.row.Row.{Row}
use Rattle.spf.specs.declared.route.Route.{Route}
use Rattle.spf.specs.Maps.{Map}
use Rattle.spf.specs.Rows.{map_from}

-- A line to a neighbour, with its figure.
abbrev pub to : ℕ → ℕ → Line
to neighbour figure = record { neighbour = neighbour; figure = figure }

-- The row of these lines.
abbrev pub row : List Line → Row
row lines = record { lines = lines; used = length lines }

-- The lines that leave nodes 1, 2, 3 and 4, the one from 2 to 4 with a figure to be given.
abbrev pub four : ℕ → Map
four figure = map_from 4 (
    row (to 2 200 ∷ to 3 500 ∷ [])
    ∷ row (to 1 200 ∷ to 3 300 ∷ to 4 figure ∷ [])
    ∷ row (to 1 500 ∷ to 4 150 ∷ [])
    ∷ row []
    ∷ [])

-- A route of this distance, with this parent and this next hop.
abbrev pub route : ℕ → ℕ → ℕ → Route
route distance parent hop = record { distance = Some distance; parent = parent; hop = hop }
