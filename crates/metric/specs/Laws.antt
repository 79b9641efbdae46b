-- What every metric owes. Assumes nothing.
use Rattle.std.specs.Prelude.{◌≡◌, ℕ, true, false, ◌⊎◌}
use Rattle.metric.specs.Meaning.{Meaning, Figure, Cost}

-- The four laws name path costs of up to 64 lines; what a law makes of these by adding may have a line or two more.
pub record Laws (m : Meaning) : Type 0 where
  -- 1. Less is a strict order in which any two costs compare, unless they are the same number.
  pub transitive : (a b c : ℕ) → Cost m a → Cost m b → Cost m c → m.less a b ≡ true → m.less b c ≡ true → m.less a c ≡ true
  pub irreflexive : (a : ℕ) → Cost m a → m.less a a ≡ false
  pub total : (a b : ℕ) → Cost m a → Cost m b → (m.less a b ≡ true) ⊎ ((a ≡ b) ⊎ (m.less b a ≡ true))
  -- 2. One line more costs more.
  pub rises : (a f : ℕ) → Cost m a → Figure f → m.less a (m.add a f) ≡ true
  -- 3. The same line on both never turns an order round: what was no less stays no less.
  pub keeps : (a b f : ℕ) → Cost m a → Cost m b → Figure f → m.less b a ≡ false → m.less (m.add b f) (m.add a f) ≡ false
  -- 4. It does not matter which of two lines comes first.
  pub swaps : (a f g : ℕ) → Cost m a → Figure f → Figure g → m.add (m.add a f) g ≡ m.add (m.add a g) f
