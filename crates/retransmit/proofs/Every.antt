-- Timers that are what a function gives for each slot and origin.
use Rattle.std.proofs.Common.{true, false, ◌≡◌, ℕ, ◌+◌, ◌-◌, ◌<◌, ◌≤◌, Bool, cond, ◌&&◌, nat_eq, List, [], map, length, get_or, set, sym, ap, ◌∙◌, inl, inr, arith}
use Rattle.std.proofs.lemmas.List.FromFn.{get_or-map-range_with_len, length-map-range_with_len}
use Rattle.std.proofs.lemmas.List.{ext_get_or, get_or-set_same, get_or-set_other, length-set, get_or_past}
use Rattle.std.proofs.lemmas.Bool.{cases_eq, cases_lt, eq-eqb, ne_eqb, cond-true, cond-false}
use Rattle.std.specs.List.{range_with_len}
use Rattle.retransmit.specs.Timers.{timer, every_timer}

-- A list by its elements, which are numbered from 1.
numbered : {X : Type 0} (g : ℕ → X) (d : X) (n : ℕ) (xs : List X) → length xs ≡ n → ((k : ℕ) → k < n → get_or xs k d ≡ g (k + 1)) → xs ≡ map g (range_with_len 1 n)
numbered g d n xs size each =
    ext_get_or d xs (map g (range_with_len 1 n)) (size ∙ sym (length-map-range_with_len g 1 n))
    (λ k l. each k (omega arith) ∙ sym (get_or-map-range_with_len g 1 n k (k + 1) d (omega arith) (omega arith)))

-- There are 64 timers for each of 8 slots.
pub record Full (ts : List (List ℕ)) : Type 0 where
  pub full : length ts ≡ 8
  pub each : (k : ℕ) → k < 8 → length (get_or ts k []) ≡ 64

-- The timer at these places, which begin at 0.
abbrev pub at : List (List ℕ) → ℕ → ℕ → ℕ
at ts k j = get_or (get_or ts k []) j 0

pub timer_at : (ts : List (List ℕ)) (k j : ℕ) → timer ts (k + 1) (j + 1) ≡ at ts k j
timer_at ts k j = let a : k + 1 - 1 ≡ k = omega arith in let b : j + 1 - 1 ≡ j = omega arith in rw (a, b)

pub every_is : (f : ℕ → ℕ → ℕ) (ts : List (List ℕ)) → Full ts → ((k j : ℕ) → k < 8 → j < 64 → at ts k j ≡ f (k + 1) (j + 1)) → ts ≡ every_timer f
unfolding every_timer
every_is f ts n h =
    numbered (λ slot. map (f slot) (range_with_len 1 64)) [] 8 ts n.full (λ k l. numbered (f (k + 1)) 0 64 (get_or ts k []) (n.each k l) (λ j m. h k j l m))

-- The timer of an every_timer at its places.
every_at : (f : ℕ → ℕ → ℕ) (k j : ℕ) → k < 8 → j < 64 → at (every_timer f) k j ≡ f (k + 1) (j + 1)
unfolding every_timer
every_at f k j l m =
    ap (λ (r : List ℕ). get_or r j 0) (get_or-map-range_with_len (λ slot. map (f slot) (range_with_len 1 64)) 1 8 k (k + 1) [] l (omega arith))
    ∙ get_or-map-range_with_len (f (k + 1)) 1 64 j (j + 1) 0 m (omega arith)

-- Timers are as low as what f gives.
pub every_low : (f : ℕ → ℕ → ℕ) (ts : List (List ℕ)) → Full ts → ts ≡ every_timer f → ((s o : ℕ) → f s o ≤ 3) → (k j : ℕ) → at ts k j ≤ 3
every_low f ts n is low k j =
    elim (cases_lt k 8) [
      | inl l ↦
          elim (cases_lt j 64) [
            | inl m ↦ let e : at ts k j ≡ f (k + 1) (j + 1) = ap (λ (t : List (List ℕ)). at t k j) is ∙ every_at f k j l m in omega (arith, low (k + 1) (j + 1))
            | inr m ↦ let e : at ts k j ≡ 0 = get_or_past (get_or ts k []) j 0 (omega (arith, n.each k l)) in omega arith
          ]
      | inr l ↦ let e : at ts k j ≡ 0 = ap (λ (r : List ℕ). get_or r j 0) (get_or_past ts k [] (omega (arith, n.full))) in omega arith
    ]

-- What f gives where a test fails: the timer as it was.
pub skipped : (t : Bool) (x : ℕ) (ts : List (List ℕ)) (k j : ℕ) → t ≡ false → at ts k j ≡ cond t x (timer ts (k + 1) (j + 1))
skipped t x ts k j fails = sym (timer_at ts k j) ∙ sym (cond-false t x (timer ts (k + 1) (j + 1)) fails)

-- What is at most 3 both ways.
pub low_if : (t : Bool) (x y : ℕ) → x ≤ 3 → y ≤ 3 → cond t x y ≤ 3
low_if true x y a b = a
low_if false x y a b = b

alike : (t : Bool) (x y : ℕ) → x ≡ y → y ≡ cond t x y
alike true x y e = sym e
alike false x y e = λ i. y

module _ (ts : List (List ℕ)) (h : Full ts) (slot : ℕ) (g : ℕ → ℕ → ℕ) where
  -- The timers of one slot become what g gives.
  abbrev pub row : ℕ → ℕ → ℕ
  row s o = cond (nat_eq s slot) (g o (timer ts s o)) (timer ts s o)

  pub row_none : (1 ≤ slot → slot ≤ 8 → ⊥) → ts ≡ every_timer row
  row_none out = every_is row ts h (λ k j l m. skipped (nat_eq (k + 1) slot) (g (j + 1) (timer ts (k + 1) (j + 1))) ts k j (ne_eqb (k + 1) slot (λ e. out (omega arith) (omega arith))))

  pub row_same : ((o t : ℕ) → 1 ≤ o → o ≤ 64 → g o t ≡ t) → ts ≡ every_timer row
  row_same same =
      every_is row ts h
      (λ k j l m. sym (timer_at ts k j) ∙ alike (nat_eq (k + 1) slot) (g (j + 1) (timer ts (k + 1) (j + 1))) (timer ts (k + 1) (j + 1)) (same (j + 1) (timer ts (k + 1) (j + 1)) (omega arith) (omega arith)))

  pub low_row : ((k j : ℕ) → at ts k j ≤ 3) → ((o t : ℕ) → t ≤ 3 → g o t ≤ 3) → (s o : ℕ) → row s o ≤ 3
  low_row low keeps s o = low_if (nat_eq s slot) (g o (timer ts s o)) (timer ts s o) (keeps o (timer ts s o) (low (s - 1) (o - 1))) (low (s - 1) (o - 1))

  pub row_set : (i : ℕ) (new : List ℕ) → i + 1 ≡ slot → i < 8 → length new ≡ 64 → ((j : ℕ) → j < 64 → get_or new j 0 ≡ g (j + 1) (at ts i j)) → Full (set ts i new) × (set ts i new ≡ every_timer row)
  row_set i new is within size each = (
    full,
    every_is row (set ts i new) full (λ k j l m. elim (cases_eq k i) [
      | inl same ↦
          ap (λ (r : List ℕ). get_or r j 0) (ap (λ (n : ℕ). get_or (set ts i new) n []) same ∙ get_or-set_same ts i new [] (omega (arith, h.full)))
          ∙ each j m ∙ ap (g (j + 1)) (ap (λ (n : ℕ). at ts n j) (sym same) ∙ sym (timer_at ts k j)) ∙ sym (cond-true (nat_eq (k + 1) slot) (g (j + 1) (timer ts (k + 1) (j + 1))) (timer ts (k + 1) (j + 1)) (eq-eqb (k + 1) slot (omega arith)))
      | inr other ↦
          ap (λ (r : List ℕ). get_or r j 0) (get_or-set_other ts i k new [] other)
          ∙ skipped (nat_eq (k + 1) slot) (g (j + 1) (timer ts (k + 1) (j + 1))) ts k j (ne_eqb (k + 1) slot (λ e. other (omega arith)))
    ]),
  )
    where
      full : Full (set ts i new)
      full =
          record {
            full = length-set ts i new ∙ h.full;
            each = λ k l. elim (cases_eq k i) [
              | inl same ↦ ap length (ap (λ (n : ℕ). get_or (set ts i new) n []) same ∙ get_or-set_same ts i new [] (omega (arith, h.full))) ∙ size
              | inr other ↦ ap length (get_or-set_other ts i k new [] other) ∙ h.each k l
            ];
          }

-- One timer of the slot.
both : (a b : Bool) (x y : ℕ) → cond a (cond b x y) y ≡ cond (a && b) x y
both true b x y = λ i. cond b x y
both false b x y = λ i. y

pub one_timer : (slot origin : ℕ) (ts : List (List ℕ)) → every_timer (λ s o. cond (nat_eq s slot) (cond (nat_eq o origin) 0 (timer ts s o)) (timer ts s o)) ≡ every_timer (λ s o. cond (nat_eq s slot && nat_eq o origin) 0 (timer ts s o))
one_timer slot origin ts = λ i. every_timer (λ s o. both (nat_eq s slot) (nat_eq o origin) 0 (timer ts s o) i)

module _ (ts : List (List ℕ)) (h : Full ts) (origin : ℕ) (g : ℕ → ℕ → ℕ) where
  -- The timers of one origin become what g gives.
  abbrev pub column : ℕ → ℕ → ℕ
  column s o = cond (nat_eq o origin) (g s (timer ts s o)) (timer ts s o)

  pub column_none : (1 ≤ origin → origin ≤ 64 → ⊥) → ts ≡ every_timer column
  column_none out = every_is column ts h (λ k j l m. skipped (nat_eq (j + 1) origin) (g (k + 1) (timer ts (k + 1) (j + 1))) ts k j (ne_eqb (j + 1) origin (λ e. out (omega arith) (omega arith))))

  pub column_set : (i : ℕ) (new : List (List ℕ)) → i + 1 ≡ origin → i < 64 → length new ≡ 8 → ((k : ℕ) → k < 8 → get_or new k [] ≡ set (get_or ts k []) i (g (k + 1) (at ts k i))) → new ≡ every_timer column
  column_set i new is within size each =
      every_is column new (record { full = size; each = λ k l. ap length (each k l) ∙ length-set (get_or ts k []) i (g (k + 1) (at ts k i)) ∙ h.each k l })
      (λ k j l m. ap (λ (r : List ℕ). get_or r j 0) (each k l) ∙ elim (cases_eq j i) [
        | inl same ↦
            ap (λ (n : ℕ). get_or (set (get_or ts k []) i (g (k + 1) (at ts k i))) n 0) same ∙ get_or-set_same (get_or ts k []) i (g (k + 1) (at ts k i)) 0 (omega (arith, h.each k l))
            ∙ ap (g (k + 1)) (ap (λ (n : ℕ). at ts k n) (sym same) ∙ sym (timer_at ts k j)) ∙ sym (cond-true (nat_eq (j + 1) origin) (g (k + 1) (timer ts (k + 1) (j + 1))) (timer ts (k + 1) (j + 1)) (eq-eqb (j + 1) origin (omega arith)))
        | inr other ↦
            get_or-set_other (get_or ts k []) i j (g (k + 1) (at ts k i)) 0 other
            ∙ skipped (nat_eq (j + 1) origin) (g (k + 1) (timer ts (k + 1) (j + 1))) ts k j (ne_eqb (j + 1) origin (λ e. other (omega arith)))
      ])
