-- Adding a list of figures to the empty cost makes a path cost of as many lines. Assumes nothing.
use Rattle.std.proofs.Common.{ℕ, ◌+◌, ◌≤◌, List, [], ◌∷◌, length, fold, subst, arith}
use Rattle.std.specs.List.{AllByRecursion}
use Rattle.metric.specs.Meaning.{Meaning, Figure, PathCost, none, more, CostUpTo, along}

module _ (m : Meaning) where
  from : (fs : List ℕ) → AllByRecursion Figure fs → {k c : ℕ} → PathCost m k c → PathCost m (k + length fs) (fold m.add c fs)
  from [] ok {k} {c} p = subst (λ (n : ℕ). PathCost m n c) (omega arith) p
  from (f ∷ fs) ok {k} {c} p =
      subst (λ (n : ℕ). PathCost m n (fold m.add (m.add c f) fs)) (omega arith) (from fs ok.1 (more f ok.0 p))

  pub along_path : (fs : List ℕ) → AllByRecursion Figure fs → PathCost m (length fs) (along m fs)
  along_path fs ok = subst (λ (n : ℕ). PathCost m n (along m fs)) (omega arith) (from fs ok none)

  pub along_cost : (limit : ℕ) (fs : List ℕ) → AllByRecursion Figure fs → length fs ≤ limit → CostUpTo limit m (along m fs)
  along_cost limit fs ok few = record { lines = length fs; few = few; path = along_path fs ok }
