-- What one byte more does to the digits and the bytes of a word, and the laws of bytes as words.
use Rattle.std.proofs.Common.{◌≡◌, ℕ, suc, ◌+◌, ◌*◌, ◌/◌, ◌%◌, ◌<◌, Bool, true, false, eqb, List, [], ◌∷◌, ◌++◌, map, length, get_or, drop, Some, None, Option, inl, inr, sym, refl, ap, ◌∙◌, append_assoc, arith}
use native.Mathlib.Nat.{div-add-mod}
use Rattle.std.specs.Char.{digit_value as char_value}
use Rattle.std.specs.Option.{option_map}
use Rattle.std.specs.Simd.{first_chunks}
use Rattle.std.specs.List.{AllByRecursion}
use Rattle.std.proofs.iter.runs.Lists.{none-some, same_Some}
use Rattle.std.proofs.lemmas.Nat.{div_below, mod_below, div-mul-add, mod-mul-add}
use Rattle.std.proofs.lemmas.List.{drop_more}
use Rattle.std.proofs.lemmas.Bool.{eqb-true, cases_eq}
use Rattle.std.proofs.lemmas.Bool.Decides.{nat_tests}
use Rattle.script.specs.Hexadecimal.{digit_value, both, byte_of, pairs_of, bytes_of, digit_byte, digits_of, hex_of, lower, HexLaws}

-- two digits that were read
digit_is : (b d : ℕ) → (char_value b < 16) × (d ≡ char_value b) → digit_value b ≡ Some d
digit_is b d h = grind (arith, nat_tests)

pub byte_is : (high low h l : ℕ) → (char_value high < 16) × (h ≡ char_value high) → (char_value low < 16) × (l ≡ char_value low)
    → Some (16 * h + l) ≡ byte_of high low
byte_is high low h l top end = rw (digit_is high h top, digit_is low l end) refl

-- the bytes that pairs of digits stand for
abbrev pub bytes_of_pairs : List (List ℕ) → Option (List ℕ)
bytes_of_pairs [] = Some []
bytes_of_pairs (p ∷ ps) = both (λ b bs. b ∷ bs) (byte_of (get_or p 0 0) (get_or p 1 0)) (bytes_of_pairs ps)

pub even : (digits : List ℕ) → length digits % 2 ≡ 0 → pairs_of digits ≡ bytes_of_pairs (first_chunks 2 (length digits / 2) digits)
even [] h = refl
even (high ∷ []) h = absurd (omega arith)
even (high ∷ (low ∷ rest)) h =
    let n : length (high ∷ (low ∷ rest)) / 2 ≡ suc (length rest / 2) = omega arith in
    rw n (ap (both (λ b bs. b ∷ bs) (byte_of high low)) (even rest (omega arith)))

without_rest : (o : Option ℕ) → both (λ b bs. b ∷ bs) o None ≡ None
without_rest None = refl
without_rest (Some b) = refl

pub odd : (digits : List ℕ) → length digits % 2 ≡ 1 → pairs_of digits ≡ None
odd [] h = absurd (omega arith)
odd (high ∷ []) h = refl
odd (high ∷ (low ∷ rest)) h = ap (both (λ b bs. b ∷ bs) (byte_of high low)) (odd rest (omega arith)) ∙ without_rest (byte_of high low)

-- where the pairs stand for nothing, so do the digits
pub no_pairs : (digits : List ℕ) → bytes_of_pairs (first_chunks 2 (length digits / 2) digits) ≡ None → pairs_of digits ≡ None
no_pairs digits none = elim (cases_eq (length digits % 2) 0) [
  | inl is ↦ even digits is ∙ none
  | inr other ↦ odd digits (omega (arith, other))
]

-- one pair more
regroup : (bs : List ℕ) (b : ℕ) (o : Option (List ℕ)) → option_map (λ more. (bs ++ b ∷ []) ++ more) o ≡ option_map (λ more. bs ++ more) (both (λ x xs. x ∷ xs) (Some b) o)
regroup bs b None = refl
regroup bs b (Some more) = ap Some (append_assoc bs (b ∷ []) more)

module _ (pairs : List (List ℕ)) (i : ℕ) (inside : i < length pairs) where
  abbrev here : Option ℕ
  here = byte_of (get_or (get_or pairs i []) 0 0) (get_or (get_or pairs i []) 1 0)

  pub byte_more : (before after : List ℕ) (b : ℕ) → here ≡ Some b → after ≡ before ++ b ∷ []
      → option_map (λ more. after ++ more) (bytes_of_pairs (drop (i + 1) pairs)) ≡ option_map (λ more. before ++ more) (bytes_of_pairs (drop i pairs))
  byte_more before after b e is = rw (is, drop_more pairs i [], e) (regroup before b (bytes_of_pairs (drop (i + 1) pairs)))

  pub no_byte : (before : List ℕ) → here ≡ None → option_map (λ more. before ++ more) (bytes_of_pairs (drop i pairs)) ≡ None
  no_byte before e = rw (drop_more pairs i [], e) refl

-- one byte more is written: first its high digit, then its low one
pub record Pushes (b : ℕ) (before between after high low : List ℕ) : Type 0 where
  pub first : between ≡ before ++ high
  pub second : after ≡ between ++ low
  pub top : high ≡ digit_byte (b / 16) ∷ []
  pub end : low ≡ digit_byte (b % 16) ∷ []

pub digits_more : {before between after high low : List ℕ} (bytes : List ℕ) (i : ℕ) → i < length bytes → Pushes (get_or bytes i 0) before between after high low
    → after ++ digits_of (drop (i + 1) bytes) ≡ before ++ digits_of (drop i bytes)
digits_more bytes i h p = rw (drop_more bytes i 0, p.second, p.first, p.top, p.end) (simp append_assoc)

-- a digit is read back
digit_back : (d : ℕ) → d < 16 → digit_value (digit_byte d) ≡ Some d
digit_back d h = grind (arith, nat_tests)

byte_back : (b : ℕ) → b < 256 → byte_of (digit_byte (b / 16)) (digit_byte (b % 16)) ≡ Some b
byte_back b h = rw (digit_back (b / 16) (div_below b 16 16 (omega arith) (omega arith)), digit_back (b % 16) (mod_below b 16 (omega arith))) (ap Some (div-add-mod b 16))

pairs_back : (bs : List ℕ) → AllByRecursion (λ b. b < 256) bs → pairs_of (digits_of bs) ≡ Some bs
pairs_back [] h = refl
pairs_back (b ∷ bs) h = rw (byte_back b h.0, pairs_back bs h.1) refl

back : (bs : List ℕ) → AllByRecursion (λ b. b < 256) bs → bytes_of (hex_of bs) ≡ Some bs
back [] h = refl
back (b ∷ bs) h = pairs_back (b ∷ bs) h

-- a digit that is read is, in lower case, what is written for its value
digit_forth : (b d : ℕ) → digit_value b ≡ Some d → (d < 16) × (digit_byte d ≡ lower b)
digit_forth b d h = grind (arith, nat_tests)

-- two values that are there
parts : {X Y Z : Type 0} (f : X → Y → Z) (o : Option X) (p : Option Y) (z : Z) → both f o p ≡ Some z → (x : X) × (y : Y) × (o ≡ Some x) × (p ≡ Some y) × (f x y ≡ z)
parts f None p z h = absurd (none-some z h)
parts f (Some x) None z h = absurd (none-some z h)
parts f (Some x) (Some y) z h = (x, y, refl, refl, same_Some (f x y) z h)

byte_forth : (high low b : ℕ) → byte_of high low ≡ Some b → (digit_byte (b / 16) ≡ lower high) × (digit_byte (b % 16) ≡ lower low)
byte_forth high low b h =
    let q = parts (λ x y. 16 * x + y) (digit_value high) (digit_value low) b h in
    let x = q.0 in
    let y = q.1 in
    let top = digit_forth high x q.2 in
    let end = digit_forth low y q.3 in
    let is : x * 16 + y ≡ b = omega (arith, q.4) in (
      ap (λ n. digit_byte (n / 16)) (sym is) ∙ ap digit_byte (div-mul-add x 16 y end.0) ∙ top.1,
      ap (λ n. digit_byte (n % 16)) (sym is) ∙ ap digit_byte (mod-mul-add x 16 y end.0) ∙ end.1,
    )

pairs_forth : (word bs : List ℕ) → pairs_of word ≡ Some bs → digits_of bs ≡ map lower word
pairs_forth [] bs h = ap digits_of (sym (same_Some [] bs h))
pairs_forth (high ∷ []) bs h = absurd (none-some bs h)
pairs_forth (high ∷ (low ∷ word)) bs h =
    let q = parts (λ b more. b ∷ more) (byte_of high low) (pairs_of word) bs h in
    let here = byte_forth high low q.0 q.2 in
    let rest = pairs_forth word q.1 q.3 in
    ap digits_of (sym q.4) ∙ (λ i. here.0 i ∷ (here.1 i ∷ rest i))

dash_forth : (b : ℕ) (bs : List ℕ) (t : Bool) → eqb b 45 ≡ t → bytes_of (b ∷ []) ≡ Some bs → hex_of bs ≡ map lower (b ∷ [])
dash_forth b bs true e h = let k : Some [] ≡ Some bs = rw e at h in ap hex_of (sym (same_Some [] bs k)) ∙ ap (λ n. lower n ∷ []) (sym (eqb-true b 45 e))
dash_forth b bs false e h = let k : None ≡ Some bs = rw e at h in absurd (none-some bs k)

forth : (word bs : List ℕ) → bytes_of word ≡ Some bs → hex_of bs ≡ map lower word
forth [] bs h = absurd (none-some bs h)
forth (b ∷ []) bs h = dash_forth b bs (eqb b 45) refl h
forth (high ∷ (low ∷ word)) bs h =
    let q = parts (λ b more. b ∷ more) (byte_of high low) (pairs_of word) bs h in
    ap hex_of (sym q.4) ∙ ap digits_of q.4 ∙ pairs_forth (high ∷ (low ∷ word)) bs h

pub hex_laws : HexLaws
hex_laws = record { back = back; forth = forth }
