-- The rows that a map holds. Assumes nothing.
use Rattle.std.proofs.Common.{◌≡◌, ℕ, zero, suc, ◌+◌, ◌-◌, ◌<◌, ◌≤◌, true, ◌&&◌, eqb, leb, List, [], ◌∷◌, get_or, take, set, replicate, sym, refl, ap, ◌∙◌, subst, inl, inr, arith}
use mathlib.Core.Path.{subst⁻¹}
use Rattle.std.proofs.lemmas.Bool.{and_parts, and_from, eqb-true, cases_lt, le-leb, lt-leb, cond-true, cond-false}
use Rattle.std.proofs.lemmas.Bool.Decides.{nat_tests}
use Rattle.std.specs.List.{AllByRecursion}
use Rattle.wire.specs.declared.lines.Line.{Line}
use Rattle.rows.specs.declared.row.Row.{Row}
use Rattle.rows.specs.Rows.{lines_in, no_row, allowed, allowed_row, figures_fit}
use Rattle.rows.proofs.Facts.{row_lines}
use Rattle.spf.specs.Maps.{Sound}
use Rattle.spf.specs.Reading.{lines_from}
use Rattle.spf.specs.Rows.{allowed_at, allowed_rows, figure_to, figures, map_from}
use Rattle.spf.proofs.Figures.{figure_fits, figure_leads, all_figures}

-- ---- the test of all rows, place by place

no_row_at : (count node : ℕ) → allowed_at count node no_row ≡ true
no_row_at count node = grind (arith, nat_tests)

pub rows_none : (count node n : ℕ) → allowed_rows count node (replicate n no_row) ≡ true
rows_none count node zero = refl
rows_none count node (suc n) = and_from (allowed_at count node no_row) (allowed_rows count (suc node) (replicate n no_row)) (no_row_at count node) (rows_none count (suc node) n)

row_at : (count : ℕ) (rows : List Row) (node i : ℕ) → allowed_rows count node rows ≡ true → allowed_at count (node + i) (get_or rows i no_row) ≡ true
row_at count [] node i h = no_row_at count (node + i)
row_at count (row ∷ rows) node zero h =
    let e : node + 0 ≡ node = omega arith in
    subst⁻¹ (λ (x : ℕ). allowed_at count x row ≡ true) e (and_parts (allowed_at count node row) (allowed_rows count (suc node) rows) h).0
row_at count (row ∷ rows) node (suc i) h =
    let e : node + suc i ≡ suc node + i = omega arith in
    subst⁻¹ (λ (x : ℕ). allowed_at count x (get_or rows i no_row) ≡ true) e (row_at count rows (suc node) i (and_parts (allowed_at count node row) (allowed_rows count (suc node) rows) h).1)

rows_set_at : (count : ℕ) (rows : List Row) (node i : ℕ) (row : Row) → allowed_rows count node rows ≡ true → allowed_at count (node + i) row ≡ true → allowed_rows count node (set rows i row) ≡ true
rows_set_at count [] node i row h new = refl
rows_set_at count (x ∷ xs) node zero row h new =
    let e : node + 0 ≡ node = omega arith in
    and_from (allowed_at count node row) (allowed_rows count (suc node) xs) (subst (λ (n : ℕ). allowed_at count n row ≡ true) e new) (and_parts (allowed_at count node x) (allowed_rows count (suc node) xs) h).1
rows_set_at count (x ∷ xs) node (suc i) row h new =
    let e : node + suc i ≡ suc node + i = omega arith in
    let p = and_parts (allowed_at count node x) (allowed_rows count (suc node) xs) h in
    and_from (allowed_at count node x) (allowed_rows count (suc node) (set xs i row)) p.0
    (rows_set_at count xs (suc node) i row p.1 (subst (λ (n : ℕ). allowed_at count n row ≡ true) e new))

-- a row that may leave the node takes the place of the node's row
pub rows_set : (count node : ℕ) (rows : List Row) (row : Row) → allowed_rows count 1 rows ≡ true → 1 ≤ node → node ≤ count → allowed_row count node row ≡ true → figures_fit (lines_in row) ≡ true
    → allowed_rows count 1 (set rows (node - 1) row) ≡ true
rows_set count node rows row h low high may fit =
    let e : 1 + (node - 1) ≡ node = omega arith in
    let here : allowed_at count node row ≡ true =
    cond-true (leb node count) (allowed_row count node row && figures_fit (lines_in row)) (eqb row.used 0) (le-leb node count high)
    ∙ and_from (allowed_row count node row) (figures_fit (lines_in row)) may fit in
    rows_set_at count rows 1 (node - 1) row h (subst⁻¹ (λ (n : ℕ). allowed_at count n row ≡ true) e here)

-- ---- the rows of a map

module _ (count : ℕ) (rows : List Row) (held : allowed_rows count 1 rows ≡ true) where
  -- the row of the node after i
  at_place : (i : ℕ) → allowed_at count (suc i) (get_or rows i no_row) ≡ true
  at_place i = let e : 1 + i ≡ suc i = omega arith in subst (λ (n : ℕ). allowed_at count n (get_or rows i no_row) ≡ true) e (row_at count rows 1 i held)

  both : (i : ℕ) → i < count → (allowed_row count (suc i) (get_or rows i no_row) ≡ true) × (figures_fit (lines_in (get_or rows i no_row)) ≡ true)
  both i less =
      let row = get_or rows i no_row in
      and_parts (allowed_row count (suc i) row) (figures_fit (lines_in row))
      (sym (cond-true (leb (suc i) count) (allowed_row count (suc i) row && figures_fit (lines_in row)) (eqb row.used 0) (le-leb (suc i) count (omega arith))) ∙ at_place i)

  -- of a node, it may leave that node
  pub row_allowed : (u : ℕ) → 1 ≤ u → u ≤ count → allowed_row count u (get_or rows (u - 1) no_row) ≡ true
  row_allowed u low high =
      let e : suc (u - 1) ≡ u = omega arith in
      subst (λ (n : ℕ). allowed_row count n (get_or rows (u - 1) no_row) ≡ true) e (both (u - 1) (omega arith)).0

  -- the lines of a node, and of a number that is no node's
  pub lines_allowed_from : (u : ℕ) → 1 ≤ u → u ≤ count → allowed count u 0 (lines_from rows u) ≡ true
  lines_allowed_from zero low high = absurd (omega arith)
  lines_allowed_from (suc i) low high = row_lines count (suc i) (get_or rows i no_row) (both i (omega arith)).0

  pub lines_fit_from : (u : ℕ) → u ≤ count → figures_fit (lines_from rows u) ≡ true
  lines_fit_from zero high = refl
  lines_fit_from (suc i) high = (both i (omega arith)).1

  pub lines_past : (u : ℕ) → count < u → lines_from rows u ≡ []
  lines_past zero past = absurd (omega arith)
  lines_past (suc i) past =
      let row = get_or rows i no_row in
      let none = eqb-true row.used 0 (sym (cond-false (leb (suc i) count) (allowed_row count (suc i) row && figures_fit (lines_in row)) (eqb row.used 0) (lt-leb (suc i) count past)) ∙ at_place i) in
      ap (λ (n : ℕ). take n row.lines) none

  pub figured_from : (u : ℕ) → AllByRecursion (λ x. 1 ≤ x.figure) (lines_from rows u)
  figured_from zero = tt
  figured_from (suc i) = elim (cases_lt i count) [
    | inl less ↦ all_figures count (suc i) 0 (lines_from rows (suc i)) (lines_allowed_from (suc i) (omega arith) (omega arith))
    | inr past ↦ subst⁻¹ (AllByRecursion (λ (x : Line). 1 ≤ x.figure)) (lines_past (suc i) (omega arith)) tt
  ]

-- ---- figures and lines

pub figures_from : (rows : List Row) (u v : ℕ) → figures rows u v ≡ figure_to v (lines_from rows u)
figures_from rows zero v = refl
figures_from rows (suc i) v = refl

-- ---- the map

module _ (count : ℕ) (rows : List Row) (some : 1 ≤ count) (few : count ≤ 64) (held : allowed_rows count 1 rows ≡ true) where
  from_node : (u v : ℕ) → 1 ≤ figures rows u v → (1 ≤ u) × (u ≤ count)
  from_node zero v f = absurd (omega arith)
  from_node (suc i) v f = elim (cases_lt i count) [
    | inl less ↦ (omega arith, omega arith)
    | inr past ↦ let none : figures rows (suc i) v ≡ 0 = ap (figure_to v) (lines_past count rows held (suc i) (omega arith)) in absurd (omega arith)
  ]

  to_node : (u v : ℕ) → 1 ≤ figures rows u v → (1 ≤ v) × (v ≤ count)
  to_node u v f =
      let n = from_node u v f in
      figure_leads count u v (lines_from rows u) (lines_allowed_from count rows held u n.0 n.1) (subst (λ (x : ℕ). 1 ≤ x) (figures_from rows u v) f)

  fits_all : (u v : ℕ) → figures rows u v ≤ 65535
  fits_all u v = elim (cases_lt count u) [
    | inl past ↦ let none : figures rows u v ≡ 0 = figures_from rows u v ∙ ap (figure_to v) (lines_past count rows held u past) in omega arith
    | inr within ↦ subst⁻¹ (λ (x : ℕ). x ≤ 65535) (figures_from rows u v) (figure_fits v (lines_from rows u) (lines_fit_from count rows held u within))
  ]

  pub sound_of : Sound (map_from count rows)
  sound_of = record { small = few; leaves = from_node; leads = to_node; fits = fits_all }

-- a map without lines
pub bare : (n u v : ℕ) → figures (replicate n no_row) u v ≡ 0
bare n zero v = refl
bare n (suc i) v = ap (λ (row : Row). figure_to v (lines_in row)) (same n i)
  where
    same : (n i : ℕ) → get_or (replicate n no_row) i no_row ≡ no_row
    same zero i = refl
    same (suc n) zero = refl
    same (suc n) (suc i) = same n i
