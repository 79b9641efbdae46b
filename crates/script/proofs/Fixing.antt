-- The laws of the words of a line.
use Rattle.std.proofs.Common.{◌≡◌, ℕ, ◌-◌, Bool, true, false, List, [], ◌∷◌, ◌++◌, length, get_or, filter, refl, ap, ◌∙◌, append_assoc, append-nil, arith}
use Rattle.std.specs.List.{flat_map, AllByRecursion}
use Rattle.std.proofs.ByRecursion.{All-push}
use Rattle.std.proofs.lemmas.List.{length_push, get_or_push, take_at}
use Rattle.std.proofs.lemmas.Bool.{ne_eqb}
use Rattle.script.specs.Words.{blank, is_blank, ended, reading, words_in, body, Word, WordsOfLine, WordLaws}
use Rattle.script.proofs.Cutting.{begun}

ended_append : (w : List ℕ) (ws vs : List (List ℕ)) → ended w (ws ++ vs) ≡ ended w ws ++ vs
ended_append [] ws vs = refl
ended_append (b ∷ w) ws vs = refl

-- a blank separates
Apart : List ℕ → List ℕ → ℕ → List ℕ → Type 0
Apart w before b after = reading w (before ++ b ∷ after) ≡ reading w before ++ words_in after

apart_more : (w : List ℕ) (x : ℕ) (before : List ℕ) (b : ℕ) (after : List ℕ) (t : Bool) → blank x ≡ t → Apart [] before b after → Apart (w ++ x ∷ []) before b after → Apart w (x ∷ before) b after
unfolding Apart
apart_more w x before b after true e new on = rw e (ap (ended w) new ∙ ended_append w (words_in before) (words_in after))
apart_more w x before b after false e new on = rw e on

apart : (w before : List ℕ) (b : ℕ) (after : List ℕ) → blank b ≡ true → Apart w before b after
unfolding Apart
apart w [] b after h = rw h (ended_append w [] (words_in after))
apart w (x ∷ before) b after h = apart_more w x before b after (blank x) refl (apart [] before b after h) (apart (w ++ x ∷ []) before b after h)

-- bytes without a blank go on the word that is being read
solid : (w v : List ℕ) → AllByRecursion (λ b. blank b ≡ false) v → reading w v ≡ ended (w ++ v) []
solid w [] h = rw append-nil
solid w (b ∷ v) h = rw h.0 (solid (w ++ b ∷ []) v h.1 ∙ ap (λ u. ended u []) (append_assoc w (b ∷ []) v))

-- the last byte of a line
last_at : (bs : List ℕ) (b : ℕ) → get_or (bs ++ b ∷ []) (length (bs ++ b ∷ []) - 1) 0 ≡ b
last_at bs b = get_or_push bs b 0 (length (bs ++ b ∷ []) - 1) (omega (arith, length_push bs b))

body_return : (bs : List ℕ) → body (bs ++ 13 ∷ []) ≡ bs
body_return bs = rw (last_at bs 13) (take_at bs (13 ∷ []) (length (bs ++ 13 ∷ []) - 1) (omega (arith, length_push bs 13)))

body_last : (bs : List ℕ) (b : ℕ) → (b ≡ 13 → ⊥) → body (bs ++ b ∷ []) ≡ bs ++ b ∷ []
body_last bs b h = rw (last_at bs b) (rw (ne_eqb b 13 h))

pub word_laws : WordLaws
unfolding Apart
word_laws = record {
  apart = λ before after b h. apart [] before b after h;
  one = λ w h. solid [] w h.1 ∙ begun w [] h.0;
  none = refl;
  empty = refl;
  return = λ bs. ap words_in (body_return bs);
  last = λ bs b h. ap words_in (body_last bs b h);
}

-- each word has a byte and no blank
ended_each : (w : List ℕ) (ws : List (List ℕ)) → AllByRecursion (λ b. blank b ≡ false) w → AllByRecursion Word ws → AllByRecursion Word (ended w ws)
ended_each [] ws h k = k
ended_each (b ∷ w) ws h k = ((omega arith, h), k)

each_more : (w : List ℕ) (b : ℕ) (bs : List ℕ) (t : Bool) → blank b ≡ t → AllByRecursion (λ x. blank x ≡ false) w → AllByRecursion Word (words_in bs)
    → (AllByRecursion (λ x. blank x ≡ false) (w ++ b ∷ []) → AllByRecursion Word (reading (w ++ b ∷ []) bs)) → AllByRecursion Word (reading w (b ∷ bs))
each_more w b bs true e h new on = rw e (ended_each w (words_in bs) h new)
each_more w b bs false e h new on = rw e (on (All-push (λ x. blank x ≡ false) w b h e))

each : (w bs : List ℕ) → AllByRecursion (λ b. blank b ≡ false) w → AllByRecursion Word (reading w bs)
each w [] h = ended_each w [] h tt
each w (b ∷ bs) h = each_more w b bs (blank b) refl h (each [] bs tt) (each (w ++ b ∷ []) bs)

-- the words joined are the bytes without the blanks
abbrev together : List (List ℕ) → List ℕ
together ws = flat_map (λ w. w) ws

ended_whole : (w : List ℕ) (ws : List (List ℕ)) → together (ended w ws) ≡ w ++ together ws
ended_whole [] ws = refl
ended_whole (b ∷ w) ws = refl

Whole : List ℕ → List ℕ → Type 0
Whole w bs = together (reading w bs) ≡ w ++ filter (is_blank false) bs

whole_more : (w : List ℕ) (b : ℕ) (bs : List ℕ) (t : Bool) → blank b ≡ t → Whole [] bs → Whole (w ++ b ∷ []) bs → Whole w (b ∷ bs)
unfolding Whole
whole_more w b bs true e new on = rw e (ended_whole w (words_in bs) ∙ ap (λ v. w ++ v) new)
whole_more w b bs false e new on = rw e (on ∙ append_assoc w (b ∷ []) (filter (is_blank false) bs))

whole : (w bs : List ℕ) → Whole w bs
unfolding Whole
whole w [] = ended_whole w []
whole w (b ∷ bs) = whole_more w b bs (blank b) refl (whole [] bs) (whole (w ++ b ∷ []) bs)

pub words_of_line : (line : List ℕ) → WordsOfLine line
unfolding Whole
words_of_line line = record { each = each [] (body line) tt; whole = whole [] (body line) }
