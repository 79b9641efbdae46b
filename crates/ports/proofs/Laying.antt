-- The row of some lines: one line more, and what it holds.
use Rattle.std.proofs.Common.{◌≡◌, ℕ, suc, ◌-◌, ◌<◌, ◌≤◌, true, List, [], ◌∷◌, ◌++◌, length, set, replicate, sym, refl, ap, ◌∙◌, ap₂, arith}
use Rattle.std.proofs.lemmas.List.{set_at, append_assoc, length_push, take_at}
use Rattle.std.proofs.lemmas.Bool.{cond-true, lt-ltb}
use Rattle.std.proofs.lemmas.Bool.Decides.{nat_tests}
use Rattle.wire.specs.declared.lines.Line.{Line}
use Rattle.rows.specs.declared.row.Row.{Row}
use Rattle.rows.specs.Rows.{no_line, lines_in, allowed, allowed_row}
use Rattle.rows.specs.Pushing.{has_room, pushed}
use Rattle.ports.specs.Rows.{row_of}

pub row_push : (xs : List Line) (x : Line) → length xs < 8 → pushed (row_of xs) x ≡ row_of (xs ++ x ∷ [])
row_push xs x h =
    let left : 8 - length xs ≡ suc (7 - length xs) = omega arith in
    let longer = length_push xs x in
    let rest : 7 - length xs ≡ 8 - length (xs ++ x ∷ []) = omega arith in
    let laid : set (xs ++ replicate (8 - length xs) no_line) (length xs) x ≡ (xs ++ x ∷ []) ++ replicate (8 - length (xs ++ x ∷ [])) no_line =
    ap (λ (k : ℕ). set (xs ++ replicate k no_line) (length xs) x) left
    ∙ set_at xs no_line (replicate (7 - length xs) no_line) x (length xs) refl
    ∙ sym (append_assoc xs (x ∷ []) (replicate (7 - length xs) no_line))
    ∙ ap (λ (k : ℕ). (xs ++ x ∷ []) ++ replicate k no_line) rest in
    let P : List Line → ℕ → Row = λ lines used. record { lines = lines; used = used } in
    cond-true (has_room (row_of xs)) _ (row_of xs) (lt-ltb (length xs) 8 h) ∙ ap₂ P laid (sym longer)

pub row_lines : (xs : List Line) → lines_in (row_of xs) ≡ xs
row_lines xs = take_at xs (replicate (8 - length xs) no_line) (length xs) refl

pub row_allowed : (count node : ℕ) (xs : List Line) → length xs ≤ 8 → allowed count node 0 xs ≡ true → allowed_row count node (row_of xs) ≡ true
row_allowed count node xs few good = let same = row_lines xs in rw same (grind (arith, nat_tests))
