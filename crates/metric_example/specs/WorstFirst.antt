-- The tempting metric: smallest worst figure first, then fewest lines. Assumes nothing.
use Rattle.std.specs.Prelude.{◌≡◌, ℕ, ◌+◌, ◌*◌, ◌/◌, ◌%◌, ◌≤◌, max, Bool, true, ◌&&◌, ◌||◌, List, [], ◌∷◌, length, ◌==◌, nat_lt}
use Rattle.std.specs.List.{AllByRecursion}
use Rattle.metric.specs.Meaning.{Meaning, Figure, along}
use Rattle.metric.specs.Laws.{Laws}
use Rattle.metric.specs.Metrics.{capped, worst}

-- One path is milder than another if its worst figure is smaller, or the same and on fewer lines.
abbrev pub milder : List ℕ → List ℕ → Bool
milder a b = nat_lt (worst a) (worst b) || (worst a == worst b && nat_lt (length a) (length b))

-- A metric puts the worst figure first if of two paths of up to 64 lines the one costs less exactly if it is milder.
abbrev pub WorstFirst : Meaning → Type 0
WorstFirst m = (a b : List ℕ) → AllByRecursion Figure a → AllByRecursion Figure b → length a ≤ 64 → length b ≤ 64 → m.less (along m a) (along m b) ≡ milder a b

-- One way to write such costs: worst figure x 65,536 + lines.
abbrev pub worst_first : Meaning
worst_first = record {
  empty = 0;
  add = λ c f. capped (max (c / 65536) f * 65536 + (c % 65536 + 1));
  less = nat_lt;
}

-- Five lines of 3 are milder than one line of 5, and a further line of 9 reverses it.
pub record Reversed : Type 0 where
  pub before : milder (3 ∷ 3 ∷ 3 ∷ 3 ∷ 3 ∷ []) (5 ∷ []) ≡ true
  pub after : milder (5 ∷ 9 ∷ []) (3 ∷ 3 ∷ 3 ∷ 3 ∷ 3 ∷ 9 ∷ []) ≡ true

-- No metric that puts the worst figure first keeps the four laws, however its costs are written.
abbrev pub Lawless : Type 0
Lawless = (m : Meaning) → WorstFirst m → Laws m → ⊥
