-- A time that passes the table's test is the least one, and the quotient rounded up.
use Rattle.std.proofs.Common.{◌≡◌, ℕ, zero, suc, ◌+◌, ◌-◌, ◌*◌, ◌<◌, ◌≤◌, true, sym, lt_of_lt_of_le, add-mul, lt_of_mul-lt-mul_right, one-mul, zero-mul, arith}
use native.Mathlib.Nat.{div-eq_of_lt-le}
use Rattle.std.proofs.lemmas.Bool.Decides.{nat_tests}
use Rattle.timing.specs.declared.speed.Speed.{Speed}
use Rattle.timing.specs.Speeds.{rate}
use Rattle.timing.specs.Limits.{longest}
use Rattle.timing.specs.Sending.{bits_of, Enough, Least, sending_time, longest_time}
use Rattle.timing.specs.Table.{right_time}
use Rattle.timing.proofs.Entries.{facts}

module _ (s : Speed) (w t : ℕ) (some : 1 ≤ w) (right : right_time (rate s) w t ≡ true) where
  parts : (Enough s w t) × ((t - 1) * rate s < bits_of w * 10000)
  parts = grind (arith, nat_tests)

  pub least_time : Least s w t
  least_time =
      record {
        enough = parts.0;
        least = λ u enough.
            let less = lt_of_mul-lt-mul_right (rate s) {m = t - 1} {n = u} (lt_of_lt_of_le parts.1 enough) in omega arith;
      }

  pub at_least_one : 1 ≤ t
  at_least_one = positive t (rate s) (bits_of w * 10000) (omega arith) parts.0
    where
      -- no time is not enough
      positive : (t r l : ℕ) → 0 < l → l ≤ t * r → 1 ≤ t
      positive zero r l a b = absurd (omega (arith, zero-mul r))
      positive (suc t) r l a b = omega arith

  -- one less, and one more again
  one_more : (t - 1) * rate s + rate s ≡ t * rate s
  one_more =
      let back : t - 1 + 1 ≡ t = omega (arith, at_least_one) in
      let split = rw back at (add-mul (t - 1) 1 (rate s)) in
      omega (arith, split, one-mul (rate s))

  pub rounded_up : t ≡ sending_time s w
  rounded_up =
      sym
      (div-eq_of_lt-le (rate s) {m = bits_of w * 10000 + (rate s - 1)}
      (omega (arith, one_more, parts.1, (facts s).slowest))
      (omega (arith, add-mul t 1 (rate s), one-mul (rate s), parts.0, (facts s).slowest)))

  pub at_most : w ≤ longest → t ≤ longest_time
  at_most few = least_time.least longest_time (omega (arith, (facts s).slowest))
