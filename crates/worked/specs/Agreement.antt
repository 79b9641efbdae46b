-- Tables of what was reckoned by hand.
use Rattle.std.specs.Prelude.{◌≡◌, List, [], ◌∷◌}

-- A row: what the definitions give, and what was reckoned.
pub data Row : Type 1 where
  gives : {A : Type 0} → A → A → Row

-- Every row of a table comes out as it was reckoned.
abbrev pub Agree : List Row → Type 0
Agree [] = Unit {0}
Agree (gives given reckoned ∷ rows) = (given ≡ reckoned) × Agree rows
