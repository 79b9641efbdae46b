-- How a line falls into words.
use Rattle.std.specs.Prelude.{◌≡◌, ℕ, ◌-◌, ◌<◌, Bool, true, false, if◌then◌else◌, not, ◌||◌, List, [], ◌∷◌, ◌++◌, length, take, filter, ◌==◌, ◌≢◌, slice_index}
use Rattle.std.specs.List.{flat_map, AllByRecursion}

-- A blank is a space or a tab.
abbrev pub blank : ℕ → Bool
blank b = b == 32 || b == 9

-- Whether a byte is a blank, or is none.
abbrev pub is_blank : Bool → ℕ → Bool
is_blank true b = blank b
is_blank false b = not (blank b)

-- Where a word ends it joins the words that follow it, unless nothing was read of it.
abbrev pub ended : List ℕ → List (List ℕ) → List (List ℕ)
ended [] ws = ws
ended (b ∷ w) ws = (b ∷ w) ∷ ws

-- The words of bytes read from the left, where the word that is being read began with `w`.
abbrev pub reading : List ℕ → List ℕ → List (List ℕ)
reading w [] = ended w []
reading w (b ∷ bs) = if blank b then ended w (reading [] bs) else reading (w ++ b ∷ []) bs

-- The words of a part of a line.
abbrev pub words_in : List ℕ → List (List ℕ)
words_in bs = reading [] bs

-- A line without its last byte, where that is a CR.
abbrev pub body : List ℕ → List ℕ
body line = if slice_index line (length line - 1) == 13 then take (length line - 1) line else line

-- The words of a line.
abbrev pub words_of : List ℕ → List (List ℕ)
words_of line = words_in (body line)

-- A word has a byte at least, and no blank.
abbrev pub Word : List ℕ → Type 0
Word w = (0 < length w) × AllByRecursion (λ b. blank b ≡ false) w

-- What holds of the words of a line: each is a word, and joined they are the line's bytes without its blanks, in order.
pub record WordsOfLine (line : List ℕ) : Type 0 where
  pub each : AllByRecursion Word (words_of line)
  pub whole : flat_map (λ w. w) (words_of line) ≡ filter (is_blank false) (body line)

-- The laws that alone fix the words of every line.
pub record WordLaws : Type 0 where
  -- a blank separates: the words before it are followed by the words after it
  pub apart : (before after : List ℕ) (b : ℕ) → blank b ≡ true → words_in (before ++ b ∷ after) ≡ words_in before ++ words_in after
  -- bytes without a blank are one word
  pub one : (w : List ℕ) → Word w → words_in w ≡ w ∷ []
  -- no bytes have no words
  pub none : words_in [] ≡ []
  -- nor has the empty line
  pub empty : words_of [] ≡ []
  -- a CR that ends the line is part of no word
  pub return : (bs : List ℕ) → words_of (bs ++ 13 ∷ []) ≡ words_in bs
  -- any other last byte is one like the bytes before it
  pub last : (bs : List ℕ) (b : ℕ) → (b ≢ 13) → words_of (bs ++ b ∷ []) ≡ words_in (bs ++ b ∷ [])
