-- The elements of a list, changed one after the other.
use Rattle.std.proofs.Common.{◌≡◌, ℕ, ◌+◌, ◌<◌, ◌≤◌, List, length, get_or}

-- The element numbered n stands at n - 1. The first i are changed as R says, by their number, and the others are as they were.
pub record Sofar {X : Type 0} (R : ℕ → X → X → Type 0) (d : X) (old new : List X) (i : ℕ) : Type 0 where
  pub size : length new ≡ length old
  pub done : (k : ℕ) → k < i → R (k + 1) (get_or old k d) (get_or new k d)
  pub rest : (k : ℕ) → i ≤ k → get_or new k d ≡ get_or old k d
