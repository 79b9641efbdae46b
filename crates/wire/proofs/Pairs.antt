-- Lines and the bytes that hold them: each way undoes the other, and questions on lines say what is lawful.
use Rattle.std.proofs.Common.{◌≡◌, ℕ, suc, ◌+◌, ◌*◌, ◌/◌, ◌%◌, ◌<◌, ◌≤◌, List, [], ◌∷◌, length, refl, ap, arith}
use Rattle.std.proofs.lemmas.Bool.Decides.{nat_tests}
use Rattle.wire.specs.declared.lines.Line.{Line}
use Rattle.wire.specs.Lines.{pair_bytes, lines_of}
use Rattle.wire.specs.Reports.{Lawful, line_questions}
use Rattle.wire.specs.Laws.{Bytes}
use Rattle.wire.proofs.Judging.{AllYes}

-- Three bytes to a line.
pub pairs_length : (xs : List Line) → length (pair_bytes xs) ≡ 3 * length xs
pairs_length [] = refl
pairs_length (x ∷ xs) = let h = pairs_length xs in omega arith

pub lines_length : (b : List ℕ) → 3 * length (lines_of b) ≤ length b
lines_length [] = omega arith
lines_length (n ∷ []) = omega arith
lines_length (n ∷ (h ∷ [])) = omega arith
lines_length (n ∷ (h ∷ (l ∷ rest))) = let k = lines_length rest in omega arith

-- Bytes in threes are the bytes of the lines that they hold.
pub pairs_back : (b : List ℕ) → length b % 3 ≡ 0 → Bytes b → pair_bytes (lines_of b) ≡ b
pairs_back [] d bytes = refl
pairs_back (n ∷ []) d bytes = absurd (omega arith)
pairs_back (n ∷ (h ∷ [])) d bytes = absurd (omega arith)
pairs_back (n ∷ (h ∷ (l ∷ rest))) d bytes =
    let low : l < 256 = bytes 2 in
    let e1 : (h * 256 + l) / 256 ≡ h = omega arith in
    let e2 : (h * 256 + l) % 256 ≡ l = omega arith in
    rw (e1, e2) (ap (λ r. n ∷ (h ∷ (l ∷ r))) (pairs_back rest (omega arith) (λ k. bytes (suc (suc (suc k))))))

-- The bytes of lines hold these lines.
pub lines_back : (xs : List Line) → lines_of (pair_bytes xs) ≡ xs
lines_back [] = refl
lines_back (x ∷ xs) =
    let e : x.figure / 256 * 256 + x.figure % 256 ≡ x.figure = omega arith in
    rw e (ap (λ r. x ∷ r) (lines_back xs))

-- Lines of bytes whose questions are all answered yes are lawful,
pub lawful : (origin previous p : ℕ) (b : List ℕ) → Bytes b → AllYes (line_questions origin previous p (lines_of b)) → Lawful origin previous (lines_of b)
lawful origin previous p [] bytes h = tt
lawful origin previous p (n ∷ []) bytes h = tt
lawful origin previous p (n ∷ (k ∷ [])) bytes h = tt
lawful origin previous p (n ∷ (k ∷ (l ∷ rest))) bytes h =
    let high : k < 256 = bytes 1 in
    let low : l < 256 = bytes 2 in
    let q = h.0 in
    let f = h.1.0 in (
      grind (arith, nat_tests),
      grind (arith, nat_tests),
      grind (arith, nat_tests),
      grind (arith, nat_tests),
      omega arith,
      lawful origin n (p + 3) rest (λ i. bytes (suc (suc (suc i)))) h.1.1,
    )

-- and the questions on lawful lines are all answered yes.
pub unquestioned : (origin previous p : ℕ) (xs : List Line) → Lawful origin previous xs → AllYes (line_questions origin previous p xs)
unquestioned origin previous p [] h = tt
unquestioned origin previous p (x ∷ xs) h = (grind (arith, nat_tests), (grind (arith, nat_tests), unquestioned origin x.neighbour (p + 3) xs h.5))
