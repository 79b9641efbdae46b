-- Serials among 32 consecutive ones are in order.
use Rattle.std.proofs.Common.{◌≡◌, ℕ, ◌+◌, ◌-◌, ◌%◌, ◌<◌, ◌≤◌, true, false, inl, inr, arith}
use Rattle.std.proofs.lemmas.Bool.{cases_lt}
use Rattle.std.proofs.lemmas.Bool.Decides.{nat_tests}
use Rattle.entries.specs.declared.entry.Entry.{Entry}
use Rattle.entries.specs.Freshness.{ahead, newer}

-- of two numbers that are among 32 ones, the one that is 1 to 31 ahead stands behind the other,
apart : (x y f : ℕ) → x < 64 → y < 64 → f < 64 → (x + 64 - f) % 64 ≤ 31 → (y + 64 - f) % 64 ≤ 31 → 1 ≤ (x + 64 - y) % 64 → (x + 64 - y) % 64 ≤ 31 → (y + 64 - f) % 64 < (x + 64 - f) % 64
apart x y f hx hy hf a b low high = omega arith

-- and one that is 0 or at least 32 ahead does not.
close : (x y f : ℕ) → x < 64 → y < 64 → f < 64 → (x + 64 - f) % 64 ≤ 31 → (y + 64 - f) % 64 ≤ 31 → (1 ≤ (x + 64 - y) % 64 → 32 ≤ (x + 64 - y) % 64) → (x + 64 - f) % 64 ≤ (y + 64 - f) % 64
close x y f hx hy hf a b h =
    elim (cases_lt ((x + 64 - y) % 64) 1) [
      | inl none ↦ omega arith
      | inr some ↦ let far = h some in omega arith
    ]

module _ (first serial : ℕ) (e : Entry) (force : 1 ≤ e.age) (new : ahead serial first ≤ 31) (old : ahead e.serial first ≤ 31) where
  pub ahead_newer : newer e serial ≡ true → ahead e.serial first < ahead serial first
  ahead_newer h =
      let low : 1 ≤ ahead serial e.serial = grind (arith, nat_tests) in
      let high : ahead serial e.serial ≤ 31 = grind (arith, nat_tests) in
      apart (serial % 64) (e.serial % 64) (first % 64) (omega arith) (omega arith) (omega arith) new old low high

  pub behind_older : newer e serial ≡ false → ahead serial first ≤ ahead e.serial first
  behind_older h = close (serial % 64) (e.serial % 64) (first % 64) (omega arith) (omega arith) (omega arith) new old (λ some. grind (arith, nat_tests))

-- The place among them tells the serial.
pub same_serial : (first x y : ℕ) → x ≤ 63 → y ≤ 63 → ahead x first ≡ ahead y first → x ≡ y
same_serial first x y hx hy e = let f : first % 64 < 64 = omega arith in omega arith
