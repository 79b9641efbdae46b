-- Lines entered into a row, one after the other.
use Rattle.std.proofs.Common.{◌≡◌, ◌+◌, ◌-◌, ◌<◌, List, [], ◌∷◌, ◌++◌, length, replicate, true, nat_lt, sym, refl, ◌∙◌, arith}
use Rattle.std.proofs.lemmas.List.{set_at, append_assoc, length_push, replicate-append-replicate}
use Rattle.std.proofs.lemmas.Bool.{lt-ltb}
use Rattle.wire.specs.declared.lines.Line.{Line}
use Rattle.rows.specs.declared.row.Row.{Row}
use Rattle.rows.specs.Rows.{no_line}
use Rattle.rows.specs.Pushing.{has_room, pushed}
use Rattle.database.specs.Taking.{row_with}

pub one_pushed : (xs : List Line) (x : Line) → length xs < 8 → pushed (row_with xs) x ≡ row_with (xs ++ x ∷ [])
one_pushed xs x h =
    let room : nat_lt (length xs) 8 ≡ true = lt-ltb (length xs) 8 h in
    let m : 8 - length xs ≡ 1 + (8 - (length xs + 1)) = omega arith in
    rw (room, length_push xs x, m, ← replicate-append-replicate 1 (8 - (length xs + 1)) no_line)
    (λ i. record { lines = (set_at xs no_line (replicate (8 - (length xs + 1)) no_line) x (length xs) refl ∙ sym (append_assoc xs (x ∷ []) (replicate (8 - (length xs + 1)) no_line))) i; used = length xs + 1 })

pub room : (row : Row) (xs : List Line) → row ≡ row_with xs → length xs < 8 → has_room row ≡ true
room row xs is h = rw is (lt-ltb (length xs) 8 h)
