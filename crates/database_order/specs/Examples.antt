-- The serial premise can be met, and is needed.
use Rattle.std.specs.Prelude.{◌≡◌, ℕ, false, List, [], ◌∷◌}
use Rattle.wire.specs.declared.lines.Line.{Line}
use Rattle.wire.specs.Form.{encode}
use Rattle.rows.specs.Rows.{lines_in}
use Rattle.database.specs.States.{State, fresh_state, held}
use Rattle.database_order.specs.Orders.{taken_all, Premise}

-- Node 1 of a network of three, which has heard nothing yet.
abbrev pub start : State
start = fresh_state 3 1

-- A line.
abbrev pub line : ℕ → ℕ → Line
line neighbour figure = record { neighbour = neighbour; figure = figure }

-- The bytes of a report of one line, at age 7: from origin, with serial.
abbrev pub reporting : ℕ → ℕ → Line → List ℕ
reporting origin serial x = encode (record { header = record { origin = origin; serial = serial; age = 7; retry = false }; lines = x ∷ [] })

-- The lines of node 2 after some bytes were taken.
abbrev pub lines_of_two : List (List ℕ) → List Line
lines_of_two bs = lines_in (held (taken_all start bs) 2).row

-- Node 2 reports with serial 63 and then with serial 0; bytes that are no report, and one of node 1's own number, come between.
abbrev pub fitting : List (List ℕ)
fitting = reporting 2 63 (line 1 200) ∷ [] ∷ reporting 1 5 (line 2 200) ∷ reporting 2 0 (line 3 300) ∷ []

-- The same from the last to the first.
abbrev pub fitting_back : List (List ℕ)
fitting_back = reporting 2 0 (line 3 300) ∷ reporting 1 5 (line 2 200) ∷ [] ∷ reporting 2 63 (line 1 200) ∷ []

-- The premise can be met, by reports that are accepted, refused and the root's own; serial 0, the later one, prevails in both orders.
pub record Met : Type 0 where
  pub premise : Premise start fitting
  pub forth : lines_of_two fitting ≡ line 3 300 ∷ []
  pub back : lines_of_two fitting_back ≡ line 3 300 ∷ []

-- Serials 10 and 42 of node 2, which are 32 apart: whichever comes first prevails.
abbrev pub early : List ℕ
early = reporting 2 10 (line 1 200)

abbrev pub late : List ℕ
late = reporting 2 42 (line 3 300)

-- Serial 10 of node 2 with two sets of lines.
abbrev pub other : List ℕ
other = reporting 2 10 (line 3 300)

-- Without the premise two orders end with different lines: where the serials do not fit in 32 consecutive ones, and where one serial brings two sets of lines.
pub record Needed : Type 0 where
  pub apart : Premise start (early ∷ late ∷ []) → ⊥
  pub apart_forth : lines_of_two (early ∷ late ∷ []) ≡ line 1 200 ∷ []
  pub apart_back : lines_of_two (late ∷ early ∷ []) ≡ line 3 300 ∷ []
  pub twofold : Premise start (early ∷ other ∷ []) → ⊥
  pub twofold_forth : lines_of_two (early ∷ other ∷ []) ≡ line 1 200 ∷ []
  pub twofold_back : lines_of_two (other ∷ early ∷ []) ≡ line 3 300 ∷ []
