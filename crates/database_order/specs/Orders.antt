-- The order in which reports are taken does not matter.
use Rattle.std.specs.Prelude.{◌≡◌, ℕ, ◌≤◌, List, fold, map, Ok}
use Rattle.std.specs.Borrow.{Bor}
use Rattle.std.specs.List.Sorted.{IsPermutation}
use Rattle.std.specs.List.{Contains}
use Rattle.wire.specs.declared.lines.Line.{Line}
use Rattle.wire.specs.Reports.{Content}
use Rattle.rows.specs.Rows.{lines_in}
use Rattle.entries.specs.Freshness.{ahead}
use Rattle.database.specs.States.{State, held}
use Rattle.database.specs.Taking.{heard, take_state}

-- What taking one after the other leaves.
abbrev pub taken_all : State → List (List ℕ) → State
taken_all s bs = fold take_state s bs

-- The bytes of each report of a slice.
abbrev pub bytes_of : List (Bor (List ℕ)) → List (List ℕ)
bytes_of reports = map (λ x. x.now) reports

-- The lines of every entry.
abbrev pub lines_held : State → List (List Line)
lines_held s = map (λ e. lines_in e.row) s.entries

-- The report q is brought by some of the bytes, and not refused.
abbrev pub Brought : ℕ → List (List ℕ) → Content → Type 0
Brought count bs q = (b : List ℕ) × Contains bs b × (heard count b ≡ Ok q)

-- A serial is among the 32 consecutive serials, modulo 64, that begin with `first`.
abbrev pub Among : ℕ → ℕ → Type 0
Among first serial = ahead serial first ≤ 31

-- The serials that speak for an origin lie close together: those of its reports that are not refused, and the held one where a report is in force at the start, are all among the 32 that follow one another, modulo 64, from `first` on.
pub record Fit (s : State) (bs : List (List ℕ)) (origin : ℕ) : Type 0 where
  pub first : ℕ
  pub start : 1 ≤ (held s origin).age → Among first (held s origin).serial
  pub reports : (q : Content) → Brought s.count bs q → q.header.origin ≡ origin → Among first q.header.serial

-- The serial premise: this holds of each origin, and no two reports of one origin share a serial but not the lines.
pub record Premise (s : State) (bs : List (List ℕ)) : Type 0 where
  pub fit : (origin : ℕ) → Fit s bs origin
  pub one : (p q : Content) → Brought s.count bs p → Brought s.count bs q → p.header.origin ≡ q.header.origin → p.header.serial ≡ q.header.serial
      → p.lines ≡ q.lines

-- The same bytes, taken in any two orders (`IsPermutation`: one list is the other after some exchanges of two places), end with the same lines in every entry; refused ones and those of the root's own number may be among them.
abbrev pub OrderFree : Type 0
OrderFree = (s : State) (xs ys : List (List ℕ)) → IsPermutation xs ys → Premise s xs → lines_held (taken_all s xs) ≡ lines_held (taken_all s ys)
