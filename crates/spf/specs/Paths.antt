-- Paths of a map, and what they cost. Assumes nothing.
use Rattle.std.specs.Prelude.{◌≡◌, ℕ, List, [], ◌∷◌, ◌≢◌}
use Rattle.metric.specs.Meaning.{Meaning}
use Rattle.spf.specs.Maps.{Map, Joined}

-- v is none of the nodes us.
abbrev pub Apart : ℕ → List ℕ → Type 0
Apart v [] = Unit {0}
Apart v (u ∷ us) = (v ≢ u) × Apart v us

-- The nodes us, read from the last one back to the root r, and then v, are a path: different nodes, each joined to the next by a line.
abbrev pub Path : Map → ℕ → ℕ → List ℕ → Type 0
Path m r v [] = v ≡ r
Path m r v (u ∷ us) = Joined m u v × Apart v (u ∷ us) × Path m r u us

-- Its cost: the figures of its lines, added in order to the empty cost.
abbrev pub cost : Meaning → Map → ℕ → List ℕ → ℕ
cost k m v [] = k.empty
cost k m v (u ∷ us) = k.add (cost k m u us) (m.figure u v)
