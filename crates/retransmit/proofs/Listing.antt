-- Origins listed one after the other.
use Rattle.std.proofs.Common.{◌≡◌, ℕ, zero, suc, ◌+◌, ◌-◌, ◌<◌, ◌≤◌, Bool, true, List, [], ◌∷◌, ◌++◌, length, get_or, drop, set, filter, map, sym, ap, ◌∙◌, map-id, inl, inr, arith}
use Rattle.std.proofs.lemmas.Bool.{cases_Bool}
use Rattle.std.proofs.lemmas.List.{append_assoc, length_push, drop_more, set_at}
use Rattle.std.specs.List.{range_with_len}
use Rattle.database.specs.States.{State}
use Rattle.retransmit.specs.Resending.{due_by, due_in, due_on}
use Rattle.retransmit.proofs.Listed.{in_force}

-- One more behind those that are listed.
pub listed_more : (old new xs : List ℕ) (n x : ℕ) → new ≡ xs ++ drop (length xs) old → n ≡ length xs → length xs < length old → set new n x ≡ (xs ++ x ∷ []) ++ drop (length (xs ++ x ∷ [])) old
listed_more old new xs n x is size room =
    rw (is, drop_more old (length xs) 0 room, length_push xs x) (set_at xs (get_or old (length xs) 0) (drop (length xs + 1) old) x n (sym size) ∙ sym (append_assoc xs (x ∷ []) (drop (length xs + 1) old)))

-- Of numbers from a on, those that lie below b are no more than lie between.
pub few : (p : ℕ → Bool) (n a b : ℕ) → ((o : ℕ) → p o ≡ true → o < b) → length (filter p (range_with_len a n)) ≤ b - a
few p zero a b below = omega arith
few p (suc n) a b below =
    let rest = few p n (a + 1) b below in
    elim (cases_Bool (p a)) [
      | inl e ↦ let here = below a e in rw e (omega arith)
      | inr e ↦ rw e (omega arith)
    ]

-- Only origins within the count are due.
pub due_few : (db : State) (timers : List ℕ) → length (filter (due_by db timers) (range_with_len 1 64)) ≤ db.count
due_few db timers = omega (arith, few (due_by db timers) 64 1 (db.count + 1) (λ o h. let (_, w, _, _) = in_force db (get_or timers (o - 1) 0) o h in omega arith))

-- When all that are due came, just those are listed.
pub all_listed : (db : State) (timers old new xs : List ℕ) (n : ℕ) → map (λ x. x) xs ≡ filter (due_by db timers) (range_with_len 1 64) → new ≡ xs ++ drop (length xs) old → n ≡ length xs
    → (n ≡ length (due_in db timers)) × (new ≡ due_in db timers ++ drop n old) × (n ≤ db.count)
unfolding due_in
all_listed db timers old new xs n all is size =
    let e : xs ≡ filter (due_by db timers) (range_with_len 1 64) = sym (map-id xs) ∙ all in
    (size ∙ ap length e, is ∙ ap (λ k. xs ++ drop k old) (sym size) ∙ ap (λ t. t ++ drop n old) e, omega (arith, ap length e, due_few db timers))

-- What is due by the timers of a slot is due on the slot.
pub same_due : (db : State) (slot : ℕ) (ts : List (List ℕ)) (timers : List ℕ) (i : ℕ) → i + 1 ≡ slot → timers ≡ get_or ts i [] → due_in db timers ≡ due_on db slot ts
unfolding due_in due_on
same_due db slot ts timers i number is =
    let back : slot - 1 ≡ i = omega arith in
    ap (λ (t : List ℕ). filter (due_by db t) (range_with_len 1 64)) (is ∙ ap (λ (k : ℕ). get_or ts k []) (sym back))
