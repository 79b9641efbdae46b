-- What the bytes of a field mean, and the questions that they are asked.
use Rattle.std.specs.Prelude.{◌≡◌, ℕ, ◌+◌, ◌*◌, ◌%◌, Bool, true, ◌&&◌, List, [], ◌∷◌, ◌++◌, length, take, drop, Ok, Err, Result, ◌==◌, nat_le, slice_index}
use Rattle.std.specs.Borrow.{Bor}
use Rattle.wire.specs.declared.fault.ReadFault.{ReadFault}
use Rattle.wire.specs.declared.fault.Question.TheVariants as question
use Rattle.wire.specs.declared.field.Tag.{Tag}
use Rattle.wire.specs.declared.field.Tag.TheVariants as tag
use Rattle.wire.specs.declared.field.Field.{Field}
use Rattle.wire.specs.declared.field.Field.TheVariants as field
use Rattle.wire.specs.Faults.{Asked, asked, judged}

-- The byte that each field begins with.
abbrev pub tag_number : Tag → ℕ
tag_number tag.Origin = 1
tag_number tag.Serial = 2
tag_number tag.Age = 3
tag_number tag.Pairs = 4

-- How long a value may be: one byte, or three for each of up to eight pairs.
abbrev pub permitted_length : Tag → ℕ → Bool
permitted_length tag.Origin n = n == 1
permitted_length tag.Serial n = n == 1
permitted_length tag.Age n = n == 1
permitted_length tag.Pairs n = n % 3 == 0 && nat_le n 24

-- The number in the two bytes at a place, most significant first.
abbrev pub word : ℕ → List ℕ → ℕ
word p b = slice_index b p * 256 + slice_index b (p + 1)

-- The bytes of the value of the field at p.
abbrev pub value_of : ℕ → List ℕ → List ℕ
value_of p b = take (word (p + 1) b) (drop (p + 3) b)

-- The questions on tag, length and extent of the field at p.
abbrev pub frame_questions : Tag → ℕ → List ℕ → List Asked
frame_questions t p b =
    asked (nat_le (p + 3) (length b)) question.ThreeBytesLeft p
    ∷ asked (slice_index b p == tag_number t) question.ExpectedTag p
    ∷ asked (permitted_length t (word (p + 1) b)) question.PermittedLength (p + 1)
    ∷ asked (nat_le (p + 3 + word (p + 1) b) (length b)) question.ValueAllThere (p + 3)
    ∷ []

-- What a value of one byte may be; pairs are asked about one by one, once the origin is known.
abbrev pub permitted_value : Tag → ℕ → Bool
permitted_value tag.Origin v = nat_le 1 v && nat_le v 64
permitted_value tag.Serial v = nat_le v 63
permitted_value tag.Age v = nat_le 1 (v % 128) && nat_le (v % 128) 7
permitted_value tag.Pairs v = true

-- A field by its values; the pairs are a list of bytes.
pub data Value : Type 0 where
  origin : ℕ → Value
  serial : ℕ → Value
  age : ℕ → Bool → Value
  pairs : List ℕ → Value

-- What the field at p says: the age's top bit is the retry flag.
abbrev pub field_value : Tag → ℕ → List ℕ → Value
field_value tag.Origin p b = origin (slice_index b (p + 3))
field_value tag.Serial p b = serial (slice_index b (p + 3))
field_value tag.Age p b = age (slice_index b (p + 3) % 128) (nat_le 128 (slice_index b (p + 3)))
field_value tag.Pairs p b = pairs (value_of p b)

-- The same of the bytes of a value.
abbrev pub value_says : Tag → List ℕ → Value
value_says tag.Origin v = origin (slice_index v 0)
value_says tag.Serial v = serial (slice_index v 0)
value_says tag.Age v = age (slice_index v 0 % 128) (nat_le 128 (slice_index v 0))
value_says tag.Pairs v = pairs v

-- All questions that are asked of the field at p, in their order.
abbrev pub field_questions : Tag → ℕ → List ℕ → List Asked
field_questions t p b = frame_questions t p b ++ asked (permitted_value t (slice_index b (p + 3))) question.PermittedValue (p + 3) ∷ []

-- The field at p, or the first question that is answered no.
unfoldable pub field_at : Tag → ℕ → List ℕ → Result Value ReadFault
field_at t p b = judged (field_questions t p b) (field_value t p b)

-- The slice s is that very part of the bytes b that begins at p.
abbrev pub LiesAt : Bor (List ℕ) → ℕ → Bor (List ℕ) → Type 0
LiesAt b p s = (s.now ≡ take (length s.now) (drop p b.now)) × (s.ref_ptr ≡ (b.ref_ptr.0, b.ref_ptr.1 + p))

-- A field that was read, by its values.
abbrev pub shown : Field → Value
shown (field.Origin v) = origin v
shown (field.Serial v) = serial v
shown (field.Age v r) = age v r
shown (field.Pairs s) = pairs s.now

-- Which field it is.
abbrev pub tag_of : Field → Tag
tag_of (field.Origin v) = tag.Origin
tag_of (field.Serial v) = tag.Serial
tag_of (field.Age v r) = tag.Age
tag_of (field.Pairs s) = tag.Pairs

-- The answer of the field reader, by its values.
abbrev pub shown_field : Result Field ReadFault → Result Value ReadFault
shown_field (Ok f) = Ok (shown f)
shown_field (Err e) = Err e

-- The pairs of a field are that very slice s; the other fields hold none.
abbrev pub PairsAre : Bor (List ℕ) → Field → Type 0
PairsAre s (field.Origin v) = Unit {0}
PairsAre s (field.Serial v) = Unit {0}
PairsAre s (field.Age v r) = Unit {0}
PairsAre s (field.Pairs t) = t ≡ s

-- The pairs of a field are that very part of the bytes b that begins at p; the other fields hold no part.
abbrev pub PairsLieAt : Bor (List ℕ) → ℕ → Field → Type 0
PairsLieAt b p (field.Origin v) = Unit {0}
PairsLieAt b p (field.Serial v) = Unit {0}
PairsLieAt b p (field.Age v r) = Unit {0}
PairsLieAt b p (field.Pairs s) = LiesAt b p s
