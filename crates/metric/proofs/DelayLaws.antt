-- The sum of the figures keeps the four laws, and measures the sum. Assumes nothing.
use Rattle.std.proofs.Common.{◌≡◌, ℕ, ◌+◌, ◌-◌, ◌*◌, ◌^◌, ◌≤◌, List, [], ◌∷◌, fold, sum, refl, ◌∙◌, arith}
use Rattle.std.proofs.lemmas.List.Sums.{sum_by-cons}
use Rattle.metric.specs.Meaning.{PathCost, none, more, Cost}
use Rattle.metric.specs.Laws.{Laws}
use Rattle.metric.specs.Metrics.{capped, delay, Sums}
use Rattle.metric.proofs.NumberOrder.{laws_by_numbers}

path_small : {k c : ℕ} → PathCost delay k c → c ≤ 65535 * k
path_small none = omega arith
path_small (more f ok p) = let h = path_small p in omega arith

-- so far from the end of the 64-bit range that nothing is cut off
cost_small : {c : ℕ} → Cost delay c → c ≤ 65535 * 64
cost_small c = omega (arith, path_small c.path)

pub delay_laws : Laws delay
delay_laws = laws_by_numbers (record {
  order = λ a b. refl;
  rises = λ a f ca ok. omega (arith, cost_small ca);
  keeps = λ a b f ca cb ok h. omega arith;
  swaps = λ a f g ca ok ok'. omega arith;
})

sums_from : (c : ℕ) → c ≤ 2 ^ 64 - 1 → (fs : List ℕ) → fold delay.add c fs ≡ capped (c + sum fs)
sums_from c fits [] = omega arith
sums_from c fits (f ∷ fs) = sums_from (capped (c + f)) (omega arith) fs ∙ omega (arith, sum_by-cons (λ (x : ℕ). x) f fs)

pub delay_sums : Sums delay
delay_sums fs = sums_from 0 (omega arith) fs ∙ omega arith
