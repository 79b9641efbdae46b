-- What holds of lines that may leave a node. Assumes nothing.
use Rattle.std.proofs.Common.{◌≡◌, ℕ, zero, suc, ◌<◌, ◌≤◌, true, leb, List, [], ◌∷◌, length, get_or, inl, inr, arith}
use Rattle.std.proofs.lemmas.Bool.{and_parts, leb-true, cases_order}
use Rattle.std.proofs.lemmas.Bool.Decides.{nat_tests}
use Rattle.wire.specs.declared.lines.Line.{Line}
use Rattle.rows.specs.declared.row.Row.{Row}
use Rattle.rows.specs.Rows.{lines_in, no_line, allowed_line, allowed, allowed_row}

-- the neighbour at a place, and the figure
abbrev pub neighbour_at : List Line → ℕ → ℕ
neighbour_at lines i = (get_or lines i no_line).neighbour

abbrev pub figure_at : List Line → ℕ → ℕ
figure_at lines i = (get_or lines i no_line).figure

-- what the test of one line tells
pub record MayFollow (count node previous : ℕ) (x : Line) : Type 0 where
  pub above : previous < x.neighbour
  pub within : x.neighbour ≤ count
  pub other : x.neighbour ≡ node → ⊥
  pub figure : 1 ≤ x.figure

module _ (count node : ℕ) where
  pub line_allowed : (previous : ℕ) (x : Line) → allowed_line count node previous x ≡ true → MayFollow count node previous x
  line_allowed previous x h = record {
    above = grind (arith, nat_tests);
    within = grind (arith, nat_tests);
    other = λ e. grind (arith, nat_tests);
    figure = grind (arith, nat_tests);
  }

  -- the first line, and the rest
  pub first_allowed : (previous : ℕ) (x : Line) (xs : List Line) → allowed count node previous (x ∷ xs) ≡ true → MayFollow count node previous x
  first_allowed previous x xs h = line_allowed previous x (and_parts (allowed_line count node previous x) (allowed count node x.neighbour xs) h).0

  pub rest_allowed : (previous : ℕ) (x : Line) (xs : List Line) → allowed count node previous (x ∷ xs) ≡ true → allowed count node x.neighbour xs ≡ true
  rest_allowed previous x xs h = (and_parts (allowed_line count node previous x) (allowed count node x.neighbour xs) h).1

  -- at each place stands such a line
  pub lines_allowed : (previous : ℕ) (lines : List Line) (i : ℕ) → allowed count node previous lines ≡ true → i < length lines → MayFollow count node previous (get_or lines i no_line)
  lines_allowed previous [] i h inside = absurd (omega arith)
  lines_allowed previous (x ∷ xs) zero h inside = first_allowed previous x xs h
  lines_allowed previous (x ∷ xs) (suc i) h inside =
      let f = first_allowed previous x xs h in
      let r = lines_allowed x.neighbour xs i (rest_allowed previous x xs h) (omega arith) in
      record { above = omega (arith, f.above, r.above); within = r.within; other = r.other; figure = r.figure }

  -- neighbours rise
  pub lines_rise : (previous : ℕ) (lines : List Line) (i j : ℕ) → allowed count node previous lines ≡ true → i < j → j < length lines → neighbour_at lines i < neighbour_at lines j
  lines_rise previous [] i j h less inside = absurd (omega arith)
  lines_rise previous (x ∷ xs) i zero h less inside = absurd (omega arith)
  lines_rise previous (x ∷ xs) zero (suc j) h less inside = (lines_allowed x.neighbour xs j (rest_allowed previous x xs h) (omega arith)).above
  lines_rise previous (x ∷ xs) (suc i) (suc j) h less inside = lines_rise x.neighbour xs i j (rest_allowed previous x xs h) (omega arith) (omega arith)

  -- so no two lines lead to one neighbour
  pub lines_differ : (lines : List Line) (i j : ℕ) → allowed count node 0 lines ≡ true → i < length lines → j < length lines → (i ≡ j → ⊥) → neighbour_at lines i ≡ neighbour_at lines j → ⊥
  lines_differ lines i j h one two apart same = elim (cases_order i j) [
    | inl e ↦ apart e
    | inr (inl less) ↦ omega (arith, lines_rise 0 lines i j h less two)
    | inr (inr less) ↦ omega (arith, lines_rise 0 lines j i h less one)
  ]

  pub row_few : (row : Row) → allowed_row count node row ≡ true → row.used ≤ 8
  row_few row h = leb-true row.used 8 (and_parts (leb row.used 8) (allowed count node 0 (lines_in row)) h).0

  pub row_lines : (row : Row) → allowed_row count node row ≡ true → allowed count node 0 (lines_in row) ≡ true
  row_lines row h = (and_parts (leb row.used 8) (allowed count node 0 (lines_in row)) h).1
