-- A field whose frame is as it has to be, and what its value says.
use Rattle.std.proofs.Common.{◌≡◌, ℕ, ◌+◌, ◌-◌, ◌*◌, ◌<◌, ◌≤◌, true, false, if◌then◌else◌, List, length, get_or, slice_range, take, drop, Ok, Err, Option, Some, None, MatchOption, refl, sym, ap, ◌∙◌, arith}
use Rattle.std.specs.Option.{ok_or}
use Rattle.std.proofs.lemmas.List.{get_or-take, get_or-drop}
use Rattle.std.proofs.lemmas.Bool.{le-leb, eq-eqb, eqb-true}
use Rattle.wire.specs.declared.fault.Question.TheVariants as question
use Rattle.wire.specs.declared.field.Tag.{Tag}
use Rattle.wire.specs.declared.field.Tag.TheVariants as tag
use Rattle.wire.specs.declared.field.Field.{Field}
use Rattle.wire.specs.Faults.{no_at}
use Rattle.wire.specs.Fields.{word, value_of, tag_number, permitted_length, permitted_value, field_value, value_says, field_at, shown, shown_field, origin, serial}

-- The first byte of a value of one byte, where it stands in the input.
first : (p n : ℕ) (b : List ℕ) → n ≡ 1 → get_or (take n (drop p b)) 0 0 ≡ get_or b p 0
first p n b e =
    get_or-take n (drop p b) 0 0 (omega arith) ∙ get_or-drop p b 0 0 ∙ ap (λ i. get_or b i 0) (let z : p + 0 ≡ p = omega arith in z)

-- A byte of the rest from p on, where it stands in the input.
behind : (p k i : ℕ) (b s : List ℕ) → s ≡ slice_range b p (length b) → i ≡ p + k → i < length b → get_or s k 0 ≡ get_or b i 0
behind p k i b s is e l = ap (λ xs. get_or xs k 0) is ∙ get_or-take (length b - p) (drop p b) k 0 (omega arith) ∙ get_or-drop p b k 0 ∙ ap (λ j. get_or b j 0) (sym e)

-- The bytes of the value may be what the byte behind the frame may be, and say what the field says.
same : (t : Tag) (p : ℕ) (b : List ℕ) → permitted_length t (word (p + 1) b) ≡ true
    → (permitted_value t (get_or (value_of p b) 0 0) ≡ permitted_value t (get_or b (p + 3) 0)) × (value_says t (value_of p b) ≡ field_value t p b)
same tag.Origin p b size = let e = first (p + 3) (word (p + 1) b) b (eqb-true _ 1 size) in (ap (permitted_value tag.Origin) e, ap origin e)
same tag.Serial p b size = let e = first (p + 3) (word (p + 1) b) b (eqb-true _ 1 size) in (ap (permitted_value tag.Serial) e, ap serial e)
same tag.Age p b size = let e = first (p + 3) (word (p + 1) b) b (eqb-true _ 1 size) in (ap (permitted_value tag.Age) e, rw e refl)
same tag.Pairs p b size = (refl, refl)

module _ (t : Tag) (p : ℕ) (b : List ℕ) where
  -- A good frame leaves the question on the value.
  framed : p + 3 ≤ length b → get_or b p 0 ≡ tag_number t → permitted_length t (word (p + 1) b) ≡ true → p + 3 + word (p + 1) b ≤ length b
      → field_at t p b ≡ (if permitted_value t (get_or b (p + 3) 0) then Ok (field_value t p b) else Err (no_at question.PermittedValue (p + 3)))
  unfolding field_at
  framed there tagged size whole =
      rw (le-leb (p + 3) (length b) there, eq-eqb (get_or b p 0) (tag_number t) tagged, size, le-leb (p + 3 + word (p + 1) b) (length b) whole) refl

  -- The answer to that question is the field's, whose frame was read at the start s of the bytes from p on.
  pub value_comes : (s : List ℕ) (n : ℕ) (r : Option Field) → s ≡ slice_range b p (length b) → length s + p ≡ length b → 3 ≤ length s
      → get_or s 0 0 ≡ tag_number t → n ≡ get_or s 1 0 * 256 + get_or s 2 0 → permitted_length t n ≡ true → n + 3 ≤ length s
      → (let v = slice_range b (p + 3) (p + 3 + n) in MatchOption r (permitted_value t (get_or v 0 0) ≡ false) (λ f. (permitted_value t (get_or v 0 0) ≡ true) × (shown f ≡ value_says t v)))
      → shown_field (ok_or r (no_at question.PermittedValue (p + 3))) ≡ field_at t p b
  value_comes s n r is long three tagged size permits whole says =
      let v = slice_range b (p + 3) (p + 3 + n) in
      let first_is : get_or b p 0 ≡ tag_number t = sym (behind p 0 p b s is (omega arith) (omega arith)) ∙ tagged in
      let n_is : n ≡ word (p + 1) b = size ∙ (λ i. behind p 1 (p + 1) b s is refl (omega arith) i * 256 + behind p 2 (p + 1 + 1) b s is (omega arith) (omega arith) i) in
      let permits' : permitted_length t (word (p + 1) b) ≡ true = rw n_is at permits in
      let value' : v ≡ value_of p b = ap (λ k. take k (drop (p + 3) b)) (let e : p + 3 + n - (p + 3) ≡ word (p + 1) b = omega arith in e) in
      let f = framed (omega arith) first_is permits' (omega (arith, n_is)) in
      let e = same t p b permits' in
      elim r as (λ o. MatchOption o (permitted_value t (get_or v 0 0) ≡ false) (λ g. (permitted_value t (get_or v 0 0) ≡ true) × (shown g ≡ value_says t v))
      → shown_field (ok_or o (no_at question.PermittedValue (p + 3))) ≡ field_at t p b) [
        | None ↦ λ h. let no : permitted_value t (get_or b (p + 3) 0) ≡ false = rw (value', e.0) at h in rw (f, no) refl
        | Some x ↦ λ h.
            let yes : permitted_value t (get_or b (p + 3) 0) ≡ true = rw (value', e.0) at h.0 in
            let what : shown x ≡ field_value t p b = rw (value', e.1) at h.1 in
            rw (f, yes) (ap Ok what)
      ] says
