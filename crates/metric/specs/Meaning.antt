-- What a metric means, and which numbers are path costs under it. Assumes nothing.
use Rattle.std.specs.Prelude.{ℕ, zero, suc, ◌≤◌, Bool, List, fold}

-- A metric means the empty cost, a cost with a line's figure added, and whether one cost is less than another.
pub record Meaning : Type 0 where
  pub empty : ℕ
  pub add : ℕ → ℕ → ℕ
  pub less : ℕ → ℕ → Bool

-- The largest figure that a line can carry.
abbrev pub largest_figure : ℕ
largest_figure = 65535

-- A line's figure is a number from 1 to the largest figure.
abbrev pub Figure : ℕ → Type 0
Figure f = (1 ≤ f) × (f ≤ largest_figure)

-- A path cost of so many lines arises from the empty cost by adding that many figures.
pub data PathCost (m : Meaning) : ℕ → ℕ → Type 0 where
  none : PathCost m zero m.empty
  more : {lines cost : ℕ} (figure : ℕ) → Figure figure → PathCost m lines cost → PathCost m (suc lines) (m.add cost figure)

-- The number c is a path cost of at most so many lines.
pub record CostUpTo (limit : ℕ) (m : Meaning) (c : ℕ) : Type 0 where
  pub lines : ℕ
  pub few : lines ≤ limit
  pub path : PathCost m lines c

-- The costs that the laws name are the path costs of up to 64 lines.
abbrev pub Cost : Meaning → ℕ → Type 0
Cost m c = CostUpTo 64 m c

-- A path whose lines carry these figures costs them, added in this order to the empty cost.
abbrev pub along : Meaning → List ℕ → ℕ
along m figures = fold m.add m.empty figures
