-- The lines of an own report.
use Rattle.std.specs.Prelude.{◌≡◌, ℕ, ◌-◌, Bool, true, List, [], ◌∷◌, ◌++◌, length, replicate, is_some, Some, None, Option}
use Rattle.std.specs.List.{range_with_len, flat_map}
use Rattle.std.specs.Option.{option_or}
use Rattle.std.specs.List.Sorted.{IsPermutation}
use Rattle.wire.specs.declared.lines.Line.{Line}
use Rattle.rows.specs.declared.row.Row.{Row}
use Rattle.rows.specs.Rows.{no_line, lines_in, allowed_row}
use Rattle.slots.specs.Slots.{State, figure_for}
use Rattle.slots.specs.Thresholds.{first}
use Rattle.ports.specs.Held.{Held}

-- The first answer that a question has at the elements of a list.
abbrev pub first_answer : {X Y : Type 0} → (X → Option Y) → List X → Option Y
first_answer question [] = None
first_answer question (x ∷ xs) = option_or (question x) (first_answer question xs)

-- The reported figure of the slot that is up to a node.
abbrev pub figure_to : ℕ → List State → Option ℕ
figure_to n = first_answer (figure_for n)

-- A slot is up to that node.
abbrev pub served : ℕ → List State → Bool
served n slots = is_some (figure_to n slots)

-- A line to a node with that figure, where there is one.
abbrev pub line_with : ℕ → Option ℕ → List Line
line_with n None = []
line_with n (Some figure) = record { neighbour = n; figure = figure } ∷ []

-- The lines of the up slots to so many nodes from one on, in rising order of node.
abbrev pub lines_from : ℕ → ℕ → List State → List Line
lines_from node n slots = flat_map (λ k. line_with k (figure_to k slots)) (range_with_len node n)

-- The lines of the up slots to the nodes 1 to n.
abbrev pub lines_to : ℕ → List State → List Line
lines_to n slots = lines_from 1 n slots

-- The row of some lines.
abbrev pub row_of : List Line → Row
row_of xs = record { lines = xs ++ replicate (8 - length xs) no_line; used = length xs }

-- The lines of an own report: all up slots with their reported figures, in rising order of neighbour.
abbrev pub own_row : Held → Row
own_row h = row_of (lines_to h.count h.slots)

-- An own report sets the threshold to 640.
abbrev pub reporting : Held → Held
reporting h = record h { threshold = first }

-- The lines of the up slots, in the order of the slots.
abbrev pub up_lines : List State → List Line
up_lines [] = []
up_lines (None ∷ slots) = up_lines slots
up_lines (Some u ∷ slots) = record { neighbour = u.neighbour; figure = u.reported } ∷ up_lines slots

-- A row is that of an own report: its lines are those of the up slots, one for each, in another order, and such as may leave the root.
pub record Own (h : Held) (row : Row) : Type 0 where
  pub value : row ≡ own_row h
  pub allowed : allowed_row h.count h.root row ≡ true
  pub exactly : IsPermutation (up_lines h.slots) (lines_in row)
