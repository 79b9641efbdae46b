-- Where the first word of some bytes begins and ends.
use Rattle.std.proofs.Common.{◌≡◌, ℕ, ◌+◌, ◌<◌, Bool, true, false, List, [], ◌∷◌, ◌++◌, length, take, drop, sym, refl, ap, ◌∙◌, append_assoc, append-nil, one-add, arith}
use Rattle.std.specs.List.{prefix_len}
use Rattle.script.specs.Words.{blank, is_blank, ended, reading, words_in}

-- how many blanks, and how many other bytes, are at the front
abbrev pub gap : List ℕ → ℕ
gap bs = prefix_len (is_blank true) bs

abbrev pub run : List ℕ → ℕ
run bs = prefix_len (is_blank false) bs

-- blanks at the front are part of no word
skip : (b : ℕ) (bs : List ℕ) (t : Bool) → blank b ≡ t → words_in (drop (gap bs) bs) ≡ words_in bs → words_in (drop (gap (b ∷ bs)) (b ∷ bs)) ≡ words_in (b ∷ bs)
skip b bs true e rest = rw e (rw one-add rest)
skip b bs false e rest = simp e

skipped : (bs : List ℕ) → words_in (drop (gap bs) bs) ≡ words_in bs
skipped [] = refl
skipped (b ∷ bs) = skip b bs (blank b) refl (skipped bs)

-- the word that is being read goes on up to the first blank
Reads : List ℕ → List ℕ → Type 0
Reads w bs = reading w bs ≡ ended (w ++ take (run bs) bs) (words_in (drop (run bs) bs))

one_on : (w : List ℕ) (b : ℕ) (bs : List ℕ) (t : Bool) → blank b ≡ t → Reads (w ++ b ∷ []) bs → Reads w (b ∷ bs)
unfolding Reads
one_on w b bs true e rest = simp (e, append-nil)
one_on w b bs false e rest = rw e (rw one-add (rest ∙ ap (λ v. ended v (words_in (drop (run bs) bs))) (append_assoc w (b ∷ []) (take (run bs) bs))))

reads : (w bs : List ℕ) → Reads w bs
unfolding Reads
reads w [] = ap (λ v. ended v []) (sym (append-nil w))
reads w (b ∷ bs) = one_on w b bs (blank b) refl (reads (w ++ b ∷ []) bs)

-- where no word begins after the blanks at the front there is none
Dry : List ℕ → Type 0
Dry bs = run (drop (gap bs) bs) ≡ 0 → words_in bs ≡ []

one_drier : (b : ℕ) (bs : List ℕ) (t : Bool) → blank b ≡ t → Dry bs → Dry (b ∷ bs)
unfolding Dry
one_drier b bs true e rest k = rw e (rest (rw (e, one-add) at k))
one_drier b bs false e rest k = let z : 1 + run bs ≡ 0 = simp e at k in absurd (omega arith)

dry : (bs : List ℕ) → Dry bs
unfolding Dry
dry [] = λ h. refl
dry (b ∷ bs) = one_drier b bs (blank b) refl (dry bs)

pub begun : (w : List ℕ) (ws : List (List ℕ)) → 0 < length w → ended w ws ≡ w ∷ ws
begun [] ws h = absurd (omega arith)
begun (b ∷ w) ws h = refl

-- the blanks at the front are passed over, and what follows is cut at its first blank
pub record Cut (bs rest word after : List ℕ) (n m : ℕ) : Type 0 where
  pub blanks : n ≡ gap bs
  pub behind : rest ≡ drop n bs
  pub solids : m ≡ run rest
  pub front : word ≡ take m rest
  pub back : after ≡ drop m rest

module _ {bs rest word after : List ℕ} {n m : ℕ} (cut : Cut bs rest word after n m) where
  solid : rest ≡ drop (gap bs) bs
  solid = cut.behind ∙ ap (λ k. drop k bs) cut.blanks

  pub first : 0 < length word → words_in bs ≡ word ∷ words_in after
  unfolding Reads
  first h = sym (skipped bs) ∙ ap words_in (sym solid) ∙ reads [] rest
      ∙ (λ i. ended (take (sym cut.solids i) rest) (words_in (drop (sym cut.solids i) rest)))
      ∙ (λ i. ended (sym cut.front i) (words_in (sym cut.back i))) ∙ begun word (words_in after) h

  pub none : m ≡ 0 → words_in bs ≡ []
  unfolding Dry
  none h = dry bs (ap run (sym solid) ∙ sym cut.solids ∙ h)
