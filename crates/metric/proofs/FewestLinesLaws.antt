-- Fewest lines, then the smallest worst figure, keeps the four laws, and orders whole paths so. Assumes nothing.
use Rattle.std.proofs.Common.{◌≡◌, ℕ, ◌+◌, ◌*◌, ◌/◌, ◌≤◌, max, List, [], ◌∷◌, length, fold, refl, ap, ◌∙◌, arith}
use Rattle.std.specs.List.{AllByRecursion}
use Rattle.metric.specs.Meaning.{Figure, largest_figure, PathCost, none, more, Cost, along}
use Rattle.metric.specs.Laws.{Laws}
use Rattle.metric.specs.Metrics.{capped, one_line, fewest_lines, worst, FewestFirst}
use Rattle.metric.proofs.NumberOrder.{laws_by_numbers}
use Rattle.metric.proofs.TwoParts.{first_then_second, worst_fits}

path_small : {k c : ℕ} → PathCost fewest_lines k c → c / one_line ≤ k
path_small none = omega arith
path_small (more f ok p) = let h = path_small p in omega arith

-- so far from the end of the 64-bit range that nothing is cut off
cost_small : {c : ℕ} → Cost fewest_lines c → c / one_line ≤ 64
cost_small c = omega (arith, path_small c.path)

pub fewest_lines_laws : Laws fewest_lines
fewest_lines_laws = laws_by_numbers (record {
  order = λ a b. refl;
  rises = λ a f ca ok. omega (arith, cost_small ca);
  keeps = λ a b f ca cb ok h. omega (arith, cost_small ca, cost_small cb);
  swaps = λ a f g ca ok ok'. omega (arith, cost_small ca);
})

written_from : (n w : ℕ) → w ≤ largest_figure → (fs : List ℕ) → AllByRecursion Figure fs
    → fold fewest_lines.add (capped (n * one_line + w)) fs ≡ capped ((n + length fs) * one_line + fold max w fs)
written_from n w fits [] ok = omega arith
written_from n w fits (f ∷ fs) ok =
    let step : fewest_lines.add (capped (n * one_line + w)) f ≡ capped ((n + 1) * one_line + max w f) = omega arith in
    ap (λ (c : ℕ). fold fewest_lines.add c fs) step ∙ written_from (n + 1) (max w f) (omega arith) fs ok.1 ∙ omega arith

written : (fs : List ℕ) → AllByRecursion Figure fs → along fewest_lines fs ≡ capped (length fs * one_line + worst fs)
written fs ok = written_from 0 0 (omega arith) fs ok ∙ omega arith

pub fewest_lines_first : FewestFirst fewest_lines
fewest_lines_first = record {
  written = written;
  order = λ a b oka okb la lb.
      rw (written a oka, written b okb)
      (first_then_second (length a) (length b) (worst a) (worst b) (omega arith) (omega arith) (worst_fits a oka) (worst_fits b okb));
}
