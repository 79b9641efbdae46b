-- The questions of a resending.
use Rattle.std.proofs.Common.{◌≡◌, ℕ, ◌≤◌, List, length, Ok, arith}
use Rattle.std.proofs.lemmas.Bool.Decides.{nat_tests}
use Rattle.database.specs.States.{State}
use Rattle.retransmit.specs.Resending.{asked}

pub all_asked : {X : Type 0} (db : State) (slot : ℕ) (list : List ℕ) (x : X) → 1 ≤ slot → slot ≤ 8 → db.count ≤ length list → asked db slot list x ≡ Ok x
all_asked db slot list x low high long = grind (arith, nat_tests)
