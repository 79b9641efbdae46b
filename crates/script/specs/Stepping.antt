-- What one call of `next` does to the words that are left.
use Rattle.std.specs.Prelude.{◌≡◌, ℕ, List, ◌∷◌, length, Option, MatchOption}
use Rattle.std.specs.Borrow.{Bor}
use Rattle.script.specs.declared.line.Words.{Words}
use Rattle.script.specs.Words.{words_in}

-- The bytes that are still to be read.
abbrev pub bytes_left : Words → List ℕ
bytes_left s = s.rest.now

-- The words that are still to come.
abbrev pub words_left : Words → List (List ℕ)
words_left s = words_in (bytes_left s)

-- A call hands out the first of the words that are left; where none is left it says so and changes nothing.
abbrev pub word_steps : Words → Option (Bor (List ℕ)) → Words → Type 0
word_steps s r t = MatchOption r ((length (words_left s) ≡ 0) × (t ≡ s)) (λ w. words_left s ≡ w.now ∷ words_left t)
