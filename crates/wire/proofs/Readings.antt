-- What the fields that were read say of the whole report.
use Rattle.std.proofs.Common.{◌≡◌, ℕ, ◌+◌, ◌%◌, ◌≤◌, Bool, nat_eq, nat_le, List, length, get_or, drop, Ok, Err, sym, ap, ◌∙◌, arith, Bor}
use Rattle.std.proofs.lemmas.List.{length-take-le, length-drop}
use Rattle.std.proofs.lemmas.Bool.{leb-true, and_parts}
use Rattle.wire.specs.declared.fault.ReadFault.{ReadFault}
use Rattle.wire.specs.declared.field.Tag.TheVariants as tag
use Rattle.wire.specs.declared.field.Field.{Field}
use Rattle.wire.specs.declared.field.Field.TheVariants as field
use Rattle.wire.specs.Fields.{word, value_of, origin, serial, age, pairs, shown, field_questions, field_value, field_at}
use Rattle.wire.specs.Lines.{lines_of}
use Rattle.wire.specs.Reports.{Content, read_report}
use Rattle.wire.specs.Laws.{Forms}
use Rattle.wire.proofs.Judging.{apart, all_yes}
use Rattle.wire.proofs.Passed.{passed}
use Rattle.wire.proofs.Pairs.{lines_length}
use Rattle.wire.proofs.Chain.{field_comes}
use Rattle.wire.proofs.Back.{returned}

-- Bytes that are refused are the form of no report.
pub no_form : (b : List ℕ) (e : ReadFault) → Err e ≡ read_report b → (q : Content) → Forms b q → ⊥
no_form b e h q f = apart q e (sym (returned q f.0) ∙ ap read_report f.1 ∙ sym h)

module _ (b : List ℕ) (f : Field) where
  pub origin_is : (o : ℕ) → f ≡ field.Origin o → Ok (shown f) ≡ field_at tag.Origin 0 b → get_or b 3 0 ≡ o
  origin_is o is h = let k : origin (get_or b 3 0) ≡ origin o = field_comes tag.Origin 0 b (shown f) h ∙ ap shown is in cc

  pub serial_is : (s : ℕ) → f ≡ field.Serial s → Ok (shown f) ≡ field_at tag.Serial 4 b → get_or b 7 0 ≡ s
  serial_is s is h = let k : serial (get_or b 7 0) ≡ serial s = field_comes tag.Serial 4 b (shown f) h ∙ ap shown is in cc

  module _ (a : ℕ) (r : Bool) (is : f ≡ field.Age a r) (h : Ok (shown f) ≡ field_at tag.Age 8 b) where
    ages : age (get_or b 11 0 % 128) (nat_le 128 (get_or b 11 0)) ≡ age a r
    ages = field_comes tag.Age 8 b (shown f) h ∙ ap shown is

    pub age_is : get_or b 11 0 % 128 ≡ a
    age_is = let k = ages in cc

    pub retry_is : nat_le 128 (get_or b 11 0) ≡ r
    retry_is = let k = ages in cc

  module _ (s : Bor (List ℕ)) (is : f ≡ field.Pairs s) (h : Ok (shown f) ≡ field_at tag.Pairs 12 b) where
    pub pairs_are : value_of 12 b ≡ s.now
    pairs_are = let k : pairs (value_of 12 b) ≡ pairs s.now = field_comes tag.Pairs 12 b (shown f) h ∙ ap shown is in cc

    -- They are as many bytes as the length says, at most 24, and all there.
    pub pairs_fit : (length s.now ≡ word 13 b) × (word 13 b ≤ 24) × (15 + word 13 b ≤ length b)
    unfolding field_at
    pairs_fit =
        let p = passed tag.Pairs 12 b (all_yes (field_questions tag.Pairs 12 b) (field_value tag.Pairs 12 b) (shown f) (sym h)) in
        let few = leb-true (word 13 b) 24 (and_parts (nat_eq (word 13 b % 3) 0) (nat_le (word 13 b) 24) p.size).1 in
        (ap length (sym pairs_are) ∙ length-take-le (word 13 b) (drop 15 b) (simp length-drop (omega (arith, p.there))), few, p.there)

    pub few_lines : length (lines_of s.now) ≤ 8
    few_lines = omega (arith, lines_length s.now, pairs_fit.0, pairs_fit.1)
