-- What a report that was not refused may put into the database.
use Rattle.std.proofs.Common.{◌≡◌, ℕ, ◌+◌, ◌-◌, ◌≤◌, true, List, [], ◌∷◌, length, replicate, Ok, refl, arith}
use Rattle.std.proofs.lemmas.List.{take_at}
use Rattle.std.proofs.lemmas.Bool.Decides.{nat_tests}
use Rattle.std.proofs.Math.Logic.{∥∥₁_elim}
use Rattle.std.specs.Coded.{le_prop}
use mathlib.Core.Bool.{Bool-set}
use Rattle.wire.specs.declared.lines.Line.{Line}
use Rattle.wire.specs.Reports.{Content, Lawful, Allowed}
use Rattle.rows.specs.Rows.{allowed, lines_in, no_line, figures_fit}
use Rattle.entries.specs.Entries.{sound_entry}
use Rattle.database.specs.Taking.{lines_within, within, row_with, heard_entry}

-- Lawful lines whose neighbours are within the count may leave the origin.
pub may_leave : (count origin previous p : ℕ) (xs : List Line) → Lawful origin previous xs → Ok tt ≡ lines_within count p xs → allowed count origin previous xs ≡ true
may_leave count origin previous p [] l w = refl
may_leave count origin previous p (x ∷ xs) l w =
    let next : Ok tt ≡ lines_within count (p + 3) xs = grind (arith, nat_tests) in
    let rest = may_leave count origin x.neighbour (p + 3) xs l.5 next in
    grind (arith, nat_tests)

-- The figures of lawful lines fit.
pub fitting : (origin previous : ℕ) (xs : List Line) → Lawful origin previous xs → figures_fit xs ≡ true
fitting origin previous [] l = refl
fitting origin previous (x ∷ xs) l = let rest = fitting origin x.neighbour xs l.5 in grind (arith, nat_tests)

pub origin_within : (count : ℕ) (q : Content) → Ok tt ≡ within count q → q.header.origin ≤ count
origin_within count q w = grind (arith, nat_tests)

-- The lines of a row are those that it was made with.
pub lines_in_lem : (xs : List Line) → lines_in (row_with xs) ≡ xs
lines_in_lem xs = take_at xs (replicate (8 - length xs) no_line) (length xs) refl

entry_sound : (count : ℕ) (q : Content) → Allowed q → Ok tt ≡ within count q → sound_entry count q.header.origin (heard_entry q) ≡ true
entry_sound count q ok w =
    let lines : Ok tt ≡ lines_within count 15 q.lines = grind (arith, nat_tests) in
    let leave : allowed count q.header.origin 0 (lines_in (row_with q.lines)) ≡ true = rw (lines_in_lem q.lines) (may_leave count q.header.origin 0 15 q.lines ok.lawful lines) in
    let fit : figures_fit (lines_in (row_with q.lines)) ≡ true = rw (lines_in_lem q.lines) (fitting q.header.origin 0 q.lines ok.lawful) in
    let near = origin_within count q w in
    grind (arith, nat_tests)

-- What is allowed has at most 8 lines,
pub few_lines : (q : Content) → ∥ Allowed q ∥₁ → length q.lines ≤ 8
few_lines q h = ∥∥₁_elim h le_prop (λ ok. ok.few)

-- its origin is 1 or more,
pub origin_low : (q : Content) → ∥ Allowed q ∥₁ → 1 ≤ q.header.origin
origin_low q h = ∥∥₁_elim h le_prop (λ ok. ok.origin_low)

-- and within the count it makes a sound entry.
pub heard_sound : (count : ℕ) (q : Content) → ∥ Allowed q ∥₁ → Ok tt ≡ within count q → sound_entry count q.header.origin (heard_entry q) ≡ true
heard_sound count q h w = ∥∥₁_elim h (Bool-set _ _) (λ ok. entry_sound count q ok w)
