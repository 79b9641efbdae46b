-- Of two things that an option is, both are the same. Assumes nothing.
use Rattle.std.proofs.Common.{◌≡◌, ℕ, Some, None, Option, arith}

pub some_same : {x y : ℕ} {o : Option ℕ} → o ≡ Some x → o ≡ Some y → x ≡ y
some_same p q = cc

pub none_some : {x : ℕ} {o : Option ℕ} → o ≡ None → o ≡ Some x → ⊥
none_some {x} {o} p q = let z : ◌≡◌ {A = ℕ} 0 1 = cc in omega arith
