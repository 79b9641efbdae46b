-- Delay with a price of 32 bits for each line keeps the four laws, and measures what it says. Assumes nothing.
use Rattle.std.proofs.Common.{◌≡◌, ℕ, ◌+◌, ◌-◌, ◌*◌, ◌^◌, ◌<◌, ◌≤◌, List, [], ◌∷◌, length, fold, sum, refl, ◌∙◌, suc-mul, arith}
use Rattle.std.proofs.lemmas.List.Sums.{sum_by-cons}
use Rattle.metric.specs.Meaning.{PathCost, none, more, Cost}
use Rattle.metric.specs.Laws.{Laws}
use Rattle.metric.specs.Metrics.{capped}
use Rattle.metric.proofs.NumberOrder.{laws_by_numbers}
use Rattle.metric_example.specs.Priced.{priced, SumsWithPrice}

module _ (price : ℕ) (fits : price < 2 ^ 32) where
  path_small : {k c : ℕ} → PathCost (priced price) k c → c ≤ (65535 + 4294967295) * k
  path_small none = omega arith
  path_small (more f ok p) = let h = path_small p in omega arith

  -- so far from the end of the 64-bit range that nothing is cut off
  cost_small : {c : ℕ} → Cost (priced price) c → c ≤ (65535 + 4294967295) * 64
  cost_small c = omega (arith, path_small c.path)

  pub priced_laws : Laws (priced price)
  priced_laws = laws_by_numbers (record {
    order = λ a b. refl;
    rises = λ a f ca ok. omega (arith, cost_small ca);
    keeps = λ a b f ca cb ok h. omega arith;
    swaps = λ a f g ca ok ok'. omega arith;
  })

module _ (price : ℕ) where
  sums_from : (c : ℕ) → c ≤ 2 ^ 64 - 1 → (fs : List ℕ) → fold (priced price).add c fs ≡ capped (c + (sum fs + length fs * price))
  sums_from c fits [] = omega arith
  sums_from c fits (f ∷ fs) =
      sums_from (capped (c + f + price)) (omega arith) fs ∙ omega (arith, sum_by-cons (λ (x : ℕ). x) f fs, suc-mul (length fs) price)

  pub priced_sums : SumsWithPrice price
  priced_sums fs = sums_from 0 (omega arith) fs ∙ omega arith
