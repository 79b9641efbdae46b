-- What is listed: just the origins whose timer ran out, rising.
use Rattle.std.proofs.Common.{◌≡◌, ℕ, zero, suc, ◌+◌, ◌-◌, ◌<◌, ◌≤◌, Bool, true, List, [], ◌∷◌, length, get_or, filter, ap, sym, ◌∙◌, inl, inr, le_of_suc-le-suc, arith}
use Rattle.std.proofs.lemmas.List.FromFn.{get_or-range_with_len, length-range_with_len}
use Rattle.std.proofs.lemmas.List.Elements.{Contains-append_right, filter_passes}
use Rattle.std.proofs.lemmas.List.Kept.{AllPairs-filter}
use Rattle.std.proofs.lemmas.Bool.{cases_Bool}
use Rattle.std.proofs.lemmas.Bool.Decides.{nat_tests}
use Rattle.std.specs.List.{range_with_len, Contains}
use Rattle.database.specs.States.{State, held, age_of}
use Rattle.retransmit.specs.Resending.{runs_out, due, due_on, Exactly}

-- What passes is kept.
kept : (p : ℕ → Bool) (xs : List ℕ) (x k : ℕ) → k < length xs → get_or xs k x ≡ x → p x ≡ true → Contains (filter p xs) x
kept p [] x k l is passes = absurd (omega arith)
kept p (y ∷ ys) x zero l is passes = rw (ap p is ∙ passes) (0, omega arith, is)
kept p (y ∷ ys) x (suc k) l is passes =
    let rest = kept p ys x k (le_of_suc-le-suc l) is passes in
    elim (cases_Bool (p y)) [
      | inl e ↦ rw e (Contains-append_right (y ∷ []) (filter p ys) x rest)
      | inr e ↦ rw e rest
    ]

-- A timer runs out only of an entry within the count that is in force.
pub in_force : (db : State) (left o : ℕ) → runs_out left (age_of db o) ≡ true → (1 ≤ o) × (o ≤ db.count) × (left ≡ 1) × (1 ≤ (held db o).age)
in_force db left o h = (grind (arith, nat_tests), grind (arith, nat_tests), grind (arith, nat_tests), grind (arith, nat_tests))

ran_out : (db : State) (left o : ℕ) → 1 ≤ o → o ≤ db.count → left ≡ 1 → 1 ≤ (held db o).age → runs_out left (age_of db o) ≡ true
ran_out db left o low high one force = grind (arith, nat_tests)

-- Of the numbers 1 to n, with the count among them, just those are listed.
exactly_to : (db : State) (slot : ℕ) (ts : List (List ℕ)) (n : ℕ) → db.count ≤ n → Exactly db slot ts (filter (due db slot ts) (range_with_len 1 n))
exactly_to db slot ts n few =
    let p = due db slot ts in
    let size = length-range_with_len 1 n in
    record {
      only = λ o has. in_force db _ o (ap p (sym has.2) ∙ filter_passes p (range_with_len 1 n) has.0 o has.1);
      all = λ o ran.
          let below = before o n ran.0 ran.1 few in
          kept p (range_with_len 1 n) o (o - 1) (rw size below) (get_or-range_with_len 1 n (o - 1) o below ∙ again o ran.0) (ran_out db _ o ran.0 ran.1 ran.2 ran.3);
      rising = λ i j l h. AllPairs-filter (λ x y. x < y) p (range_with_len 1 n) (λ a b d m k. in_order n a b d m (rw size at k)) i j 0 l h;
    }
  where
    before : {m : ℕ} (o n : ℕ) → 1 ≤ o → o ≤ m → m ≤ n → o - 1 < n
    before o n a b c = omega arith

    again : (o : ℕ) → 1 ≤ o → 1 + (o - 1) ≡ o
    again o a = omega arith

    in_order : (n a b d : ℕ) → a < b → b < n → get_or (range_with_len 1 n) a d < get_or (range_with_len 1 n) b d
    in_order n a b d m k = omega (arith, get_or-range_with_len 1 n a d (omega arith), get_or-range_with_len 1 n b d k)

pub exactly : (db : State) (slot : ℕ) (ts : List (List ℕ)) → db.count ≤ 64 → Exactly db slot ts (due_on db slot ts)
unfolding due_on
exactly db slot ts few = exactly_to db slot ts 64 few
