-- The lines of a report, as its iterator gives them.
use Rattle.std.proofs.Common.{◌≡◌, List, [], ◌∷◌, Option, MatchOption, length, ap}
use Rattle.std.proofs.lemmas.Iterator.{YieldsList}
use Rattle.std.proofs.lemmas.Iterator.Consumers.{YieldsList-from_shown}
use Rattle.wire.specs.declared.lines.Line.{Line}
use Rattle.wire.specs.declared.lines.Lines.{Lines}
use Rattle.wire.specs.Lines.{lines_of}

-- A call of `next` gives the first of the lines that are left.
abbrev pub gives : Lines → Option Line → Lines → Type 0
gives s r t = MatchOption r ((lines_of s.rest.now ≡ []) × (t ≡ s)) (λ x. lines_of s.rest.now ≡ x ∷ lines_of t.rest.now)

pub all_come : (s : Lines) (xs : List Line) → lines_of s.rest.now ≡ xs → YieldsList gives (λ x. x) s xs
all_come s xs is = rw (← is) (YieldsList-from_shown gives (λ x. x) (λ s. lines_of s.rest.now) (λ s t h. ap length h.0) (λ s x t h. h) s)
