-- The last messages of a list: their misses, and how many of them were heard in a row. Assumes nothing.
use Rattle.std.proofs.Common.{◌≡◌, ℕ, zero, suc, ◌+◌, ◌-◌, ◌<◌, ◌≤◌, true, rules, List, [], ◌∷◌, ◌++◌, length, drop, replicate, sym, refl, ap, ◌∙◌, arith}
use Rattle.std.proofs.lemmas.List.{append-nil, length-append, length_push, length-drop, length-replicate, drop-append-le, drop-drop, drop_at, drop-replicate}
use Rattle.std.proofs.lemmas.Bool.Decides.{nat_tests}
use Rattle.line.specs.Messages.{misses, last, row, steady}
use Rattle.line.specs.Windows.{bit_of}
use Rattle.line.specs.declared.messages.Message.{Message}
use Rattle.line.specs.declared.messages.Message.TheVariants.{Heard, Missed}

-- ---- misses

pub misses_push : (ms : List Message) (m : Message) → misses (ms ++ m ∷ []) ≡ misses ms + bit_of m
misses_push [] Heard = refl
misses_push [] Missed = refl
misses_push (Heard ∷ ms) m = misses_push ms m
misses_push (Missed ∷ ms) m = omega (arith, misses_push ms m)

misses_heard : (n : ℕ) (ms : List Message) → misses (replicate n Heard ++ ms) ≡ misses ms
misses_heard zero ms = refl
misses_heard (suc n) ms = misses_heard n ms

pub misses_drop : (n : ℕ) (ms : List Message) → misses (drop n ms) ≤ misses ms
misses_drop zero ms = omega arith
misses_drop (suc n) [] = omega arith
misses_drop (suc n) (Heard ∷ ms) = misses_drop n ms
misses_drop (suc n) (Missed ∷ ms) = omega (arith, misses_drop n ms)

-- ---- the last n

-- what came before the last n does not matter to the last n of more
pub last_last : (n : ℕ) (xs ys : List Message) → last n (last n xs ++ ys) ≡ last n (xs ++ ys)
last_last n xs ys =
    let a : ℕ = length xs - n in
    let all = xs ++ ys in
    let within : a ≤ length xs = omega arith in
    let front : drop a xs ++ ys ≡ drop a all = sym (drop-append-le a xs ys within) in
    let sum : a + (length (drop a all) - n) ≡ length all - n = simp (length-drop, length-append) (omega arith) in
    ap (last n) front ∙ drop-drop (length (drop a all) - n) a all ∙ ap (λ (k : ℕ). drop k all) sum

-- one message before does not matter to the last n, where there are n without it
last_cons : (n : ℕ) (m : Message) (ms : List Message) → n ≤ length ms → last n (m ∷ ms) ≡ last n ms
last_cons n m ms h = let e : suc (length ms) - n ≡ suc (length ms - n) = omega arith in rw e

-- while fewer than n have come, the last n are all of them
pub last_all : (n : ℕ) (ms : List Message) → length ms ≤ n → last n ms ≡ ms
last_all n ms h = let e : length ms - n ≡ 0 = omega arith in rw e

-- n messages before the list ms
module _ (n : ℕ) (before ms : List Message) (size : length before ≡ n) where
  last_few : length ms < n → last n (before ++ ms) ≡ drop (length ms) before ++ ms
  last_few h = grind (arith, length-append, drop-append-le)

  pub last_many : n ≤ length ms → last n (before ++ ms) ≡ last n ms
  last_many h =
      let e : length ms ≡ n + (length ms - n) = omega arith in
      let at = drop_at before ms n size in
      let twice = drop-drop (length ms - n) n (before ++ ms) in
      grind (arith, length-append)

-- n messages heard before count for nothing among the last n
pub misses_clear : (n : ℕ) (ms : List Message) → misses (last n (replicate n Heard ++ ms)) ≡ misses (last n ms)
misses_clear n ms =
    let size = length-replicate n Heard in
    let few = last_few n (replicate n Heard) ms size in
    let many = last_many n (replicate n Heard) ms size in
    grind (arith, drop-replicate, misses_heard, last_all)

-- ---- heard in a row

pub row_heard : (ms : List Message) → row (ms ++ Heard ∷ []) ≡ row ms + 1
row_heard [] = refl
row_heard (m ∷ ms) =
    let more = ms ++ Heard ∷ [] in
    let same : misses (m ∷ more) ≡ misses (m ∷ ms) + 0 = misses_push (m ∷ ms) Heard in
    let size = length_push ms Heard in
    let h = row_heard ms in
    grind (arith, nat_tests)

pub row_missed : (ms : List Message) → row (ms ++ Missed ∷ []) ≡ 0
row_missed [] = refl
row_missed (m ∷ ms) =
    let more = ms ++ Missed ∷ [] in
    let one : misses (m ∷ more) ≡ misses (m ∷ ms) + 1 = misses_push (m ∷ ms) Missed in
    let h = row_missed ms in
    grind (arith, nat_tests)

pub row_within : (ms : List Message) → row ms ≤ length ms
row_within [] = omega arith
row_within (m ∷ ms) =
    let h = row_within ms in grind (arith, nat_tests)

pub row_last : (n : ℕ) (ms : List Message) → n ≤ row ms → misses (last n ms) ≡ 0
row_last n [] h = let d = misses_drop (0 - n) [] in omega arith
row_last n (m ∷ ms) h =
    let d = misses_drop (length (m ∷ ms) - n) (m ∷ ms) in
    let size = row_within ms in
    let later = row_last n ms in
    let drops = last_cons n m ms in
    grind (arith, nat_tests)

last_row : (n : ℕ) (ms : List Message) → n ≤ length ms → misses (last n ms) ≡ 0 → n ≤ row ms
last_row n [] h e = h
last_row n (m ∷ ms) h e =
    let over = last_all n (m ∷ ms) in
    let later = last_row n ms in
    let drops = last_cons n m ms in
    grind (arith, nat_tests)

pub row_replicate : (n : ℕ) → row (replicate n Heard) ≡ n
row_replicate n =
    let none = misses_heard n [] in
    let all = append-nil (replicate n Heard) in
    grind (arith, length-replicate, last_all, last_row, row_within)

pub steady_row : (ms : List Message) → steady ms ≡ true → 30 ≤ row ms
steady_row ms e =
    let p : (30 ≤ length ms) × (misses (last 30 ms) ≡ 0) = search (rules, nat_tests) in
    last_row 30 ms p.0 p.1

pub row_steady : (ms : List Message) → 30 ≤ row ms → steady ms ≡ true
row_steady ms h =
    let none = row_last 30 ms h in
    let long : 30 ≤ length ms = omega (arith, row_within ms) in
    search (rules, nat_tests)
