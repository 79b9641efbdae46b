-- One line more, or none.
use Rattle.std.proofs.Common.{◌≡◌, ℕ, ◌<◌, ◌≤◌, List, [], ◌∷◌, ◌++◌, length, take, drop, refl, sym, ap, arith}
use Rattle.wire.specs.declared.lines.Line.{Line}
use Rattle.wire.specs.Lines.{lines_of}

-- The first line of at least three bytes.
pub first_line : (xs : List ℕ) (x : Line) → 3 ≤ length xs → x ∷ [] ≡ lines_of (take 3 xs) → lines_of xs ≡ x ∷ lines_of (drop 3 xs)
first_line [] x h e = absurd (omega arith)
first_line (n ∷ []) x h e = absurd (omega arith)
first_line (n ∷ (k ∷ [])) x h e = absurd (omega arith)
first_line (n ∷ (k ∷ (l ∷ rest))) x h e = ap (λ ys. ys ++ lines_of rest) (sym e)

-- Fewer than three bytes hold no line.
pub no_line : (xs : List ℕ) → length xs < 3 → lines_of xs ≡ []
no_line [] h = refl
no_line (n ∷ []) h = refl
no_line (n ∷ (k ∷ [])) h = refl
no_line (n ∷ (k ∷ (l ∷ rest))) h = absurd (omega arith)
