-- The two metrics of this crate, and what they measure of a whole path. Assumes nothing.
use Rattle.std.specs.Prelude.{◌≡◌, ℕ, ◌+◌, ◌-◌, ◌*◌, ◌/◌, ◌%◌, ◌^◌, ◌≤◌, min, max, Bool, ◌&&◌, ◌||◌, List, length, fold, sum, ◌==◌, nat_lt}
use Rattle.std.specs.List.{AllByRecursion}
use Rattle.metric.specs.Meaning.{Meaning, Figure, along}

-- What would pass the 64-bit range is written as its largest number.
abbrev pub capped : ℕ → ℕ
capped n = min n (2 ^ 64 - 1)

-- Kind 1: the sum of the figures.
abbrev pub delay : Meaning
delay = record { empty = 0; add = λ c f. capped (c + f); less = nat_lt }

-- What each line counts in a cost of kind 2: one more than the largest figure.
abbrev pub one_line : ℕ
one_line = 65536

-- Kind 2: one line more, and the worse of the worst figure so far and this one, written as lines x 65,536 + worst figure.
abbrev pub fewest_lines : Meaning
fewest_lines = record {
  empty = 0;
  add = λ c f. capped ((c / one_line + 1) * one_line + max (c % one_line) f);
  less = nat_lt;
}

-- Kind 1 measures the sum: a path of any length costs the sum of its figures, within the 64-bit range.
abbrev pub Sums : Meaning → Type 0
Sums m = (figures : List ℕ) → along m figures ≡ capped (sum figures)

-- The worst figure of a path is its largest, 0 where there is no line.
abbrev pub worst : List ℕ → ℕ
worst figures = fold max 0 figures

-- One path is better than another if it has fewer lines, or as many lines and a smaller worst figure.
abbrev pub better : List ℕ → List ℕ → Bool
better a b = nat_lt (length a) (length b) || (length a == length b && nat_lt (worst a) (worst b))

-- Kind 2 measures the lines, then the worst figure.
pub record FewestFirst (m : Meaning) : Type 0 where
  -- A path of any length costs its lines x 65,536 + its worst figure, within the 64-bit range.
  pub written : (figures : List ℕ) → AllByRecursion Figure figures → along m figures ≡ capped (length figures * one_line + worst figures)
  -- Of two paths of up to 64 lines, the one costs less than the other exactly if it is better.
  pub order : (a b : List ℕ) → AllByRecursion Figure a → AllByRecursion Figure b → length a ≤ 64 → length b ≤ 64 → m.less (along m a) (along m b) ≡ better a b
