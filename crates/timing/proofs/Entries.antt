-- The test over the whole table holds at each of its entries.
use Rattle.std.proofs.Common.{◌≡◌, ℕ, zero, suc, ◌+◌, ◌-◌, ◌<◌, ◌≤◌, Bool, true, eqb, List, [], ◌∷◌, map, length, get_or, refl, add-zero, add-suc, suc-add, zero-add, arith}
use Rattle.std.proofs.lemmas.Bool.{and_parts, eqb-true}
use Rattle.timing.specs.declared.speed.Speed.{Speed}
use Rattle.timing.specs.declared.speed.Speed.TheVariants.{Bits2400, Bits4800, Bits9600, Bits19200, Bits50000, Bits56000, Bits64000, Bits230400}
use Rattle.timing.specs.Speeds.{rate, speeds, number_of}
use Rattle.timing.specs.Table.{every, each, right_time, right_table}

-- a test that a list passes as a whole is passed at each place
module _ {X : Type 0} (f : ℕ → X → Bool) (d : X) where
  from : (xs : List X) (i : ℕ) → every f i xs ≡ true → (k : ℕ) → k < length xs → f (i + k) (get_or xs k d) ≡ true
  from [] i t k h = absurd (omega arith)
  from (x ∷ xs) i t zero h = rw add-zero (and_parts (f i x) (every f (suc i) xs) t).0
  from (x ∷ xs) i t (suc k) h = rw (add-suc, ← suc-add) (from xs (suc i) (and_parts (f i x) (every f (suc i) xs) t).1 k (omega arith))

  -- of n elements that pass, the one at place k
  of_each : (xs : List X) (n : ℕ) → each n f xs ≡ true → (k : ℕ) → k < n → f k (get_or xs k d) ≡ true
  of_each xs n t k h =
      let p = and_parts (eqb (length xs) n) (every f 0 xs) t in
      let e = eqb-true (length xs) n p.0 in
      rw zero-add at (from xs 0 p.1 k (omega arith))

-- the block of a speed is there, and has its times; 2,400 bits a second is the slowest speed
pub record Facts (s : Speed) : Type 0 where
  pub inside : number_of s - 1 < 8
  pub rated : get_or (map rate speeds) (number_of s - 1) 0 ≡ rate s
  pub slowest : 2400 ≤ rate s

pub facts : (s : Speed) → Facts s
facts Bits2400 = record { inside = omega arith; rated = refl; slowest = omega arith }
facts Bits4800 = record { inside = omega arith; rated = refl; slowest = omega arith }
facts Bits9600 = record { inside = omega arith; rated = refl; slowest = omega arith }
facts Bits19200 = record { inside = omega arith; rated = refl; slowest = omega arith }
facts Bits50000 = record { inside = omega arith; rated = refl; slowest = omega arith }
facts Bits56000 = record { inside = omega arith; rated = refl; slowest = omega arith }
facts Bits64000 = record { inside = omega arith; rated = refl; slowest = omega arith }
facts Bits230400 = record { inside = omega arith; rated = refl; slowest = omega arith }

-- the entry of a speed and a number of words passes the test
pub entry : (table : List (List ℕ)) → right_table table ≡ true → (speed : Speed) (block words : ℕ) → block ≡ number_of speed - 1 → 1 ≤ words → words ≤ 64
    → right_time (rate speed) words (get_or (get_or table block []) (words - 1) 0) ≡ true
entry table t speed block words e some few =
    let known = facts speed in
    let times = of_each _ [] table 8 t block (omega (arith, known.inside)) in
    let right = of_each _ 0 (get_or table block []) 64 times (words - 1) (omega arith) in
    let rated : get_or (map rate speeds) block 0 ≡ rate speed = rw e known.rated in
    let place : words - 1 + 1 ≡ words = omega arith in
    rw (rated, place) at right
