-- A map of a network. Assumes nothing.
use Rattle.std.specs.Prelude.{ℕ, ◌≤◌}
use Rattle.metric.specs.Meaning.{largest_figure}

-- A map: how many nodes there are, and the figure of the line that leads from one node to another, 0 where none does.
pub record Map : Type 0 where
  pub count : ℕ
  pub figure : ℕ → ℕ → ℕ

-- Nodes are numbered from 1.
abbrev pub Node : Map → ℕ → Type 0
Node m u = (1 ≤ u) × (u ≤ m.count)

-- A line leads from u to v.
abbrev pub Joined : Map → ℕ → ℕ → Type 0
Joined m u v = 1 ≤ m.figure u v

-- What is asked of a map: at most 64 nodes, lines between its nodes only, and no figure above the largest.
pub record Sound (m : Map) : Type 0 where
  pub small : m.count ≤ 64
  pub leaves : (u v : ℕ) → Joined m u v → Node m u
  pub leads : (u v : ℕ) → Joined m u v → Node m v
  pub fits : (u v : ℕ) → m.figure u v ≤ largest_figure
