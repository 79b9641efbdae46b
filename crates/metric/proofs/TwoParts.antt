-- Two parts that are written as one number, first x 65,536 + second, are compared by the first part, then by the second.
-- Assumes nothing.
use Rattle.std.proofs.Common.{◌≡◌, ℕ, ◌+◌, ◌*◌, ◌≤◌, max, ◌&&◌, ◌||◌, eqb, ltb, List, [], ◌∷◌, fold, arith}
use Rattle.std.specs.List.{AllByRecursion}
use Rattle.std.proofs.lemmas.Bool.Decides.{nat_tests}
use Rattle.metric.specs.Meaning.{Figure, largest_figure}
use Rattle.metric.specs.Metrics.{capped, one_line, worst}

pub first_then_second : (p q v w : ℕ) → p ≤ 65535 → q ≤ 65535 → v ≤ 65535 → w ≤ 65535
    → ltb (capped (p * one_line + v)) (capped (q * one_line + w)) ≡ (ltb p q || (eqb p q && ltb v w))
first_then_second p q v w hp hq hv hw = grind (arith, nat_tests)

-- the worst figure from w on is a part that fits
pub worst_from : (w : ℕ) → w ≤ largest_figure → (fs : List ℕ) → AllByRecursion Figure fs → fold max w fs ≤ largest_figure
worst_from w fits [] ok = fits
worst_from w fits (f ∷ fs) ok = worst_from (max w f) (omega arith) fs ok.1

pub worst_fits : (fs : List ℕ) → AllByRecursion Figure fs → worst fs ≤ largest_figure
worst_fits fs ok = worst_from 0 (omega arith) fs ok
