-- Tables of costs. Assumes nothing.
use Rattle.std.specs.Prelude.{◌≡◌, ℕ, false, List, Some, Option}
use Rattle.metric.specs.Meaning.{Meaning}
use Rattle.spf.specs.Maps.{Map, Joined}
use Rattle.spf.specs.Paths.{Path, cost}

-- A table of costs of paths, in which the root has at most the empty cost, and which no line improves.
pub record Table (k : Meaning) (m : Map) (r : ℕ) (d : ℕ → Option ℕ) : Type 0 where
  pub begins : (b : ℕ) × (d r ≡ Some b) × (k.less k.empty b ≡ false)
  pub reached : (v c : ℕ) → d v ≡ Some c → (us : List ℕ) × Path m r v us × (cost k m v us ≡ c)
  pub closed : (u v a : ℕ) → Joined m u v → d u ≡ Some a → (b : ℕ) × (d v ≡ Some b) × (k.less (k.add a (m.figure u v)) b ≡ false)
