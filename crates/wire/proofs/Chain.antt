-- The reader's way through the fields of a report: where it stops, and where it comes to the end.
use Rattle.std.proofs.Common.{◌≡◌, ℕ, ◌+◌, if◌then◌else◌, nat_le, List, ◌++◌, length, get_or, Ok, Err, sym, ◌∙◌}
use Rattle.wire.specs.declared.fault.ReadFault.{ReadFault}
use Rattle.wire.specs.declared.fault.Question.TheVariants as question
use Rattle.wire.specs.declared.field.Tag.{Tag}
use Rattle.wire.specs.declared.field.Tag.TheVariants as tag
use Rattle.wire.specs.Faults.{Asked, judged}
use Rattle.wire.specs.Lines.{lines_of}
use Rattle.wire.specs.Fields.{word, value_of, Value, field_questions, field_value, field_at}
use Rattle.wire.specs.Reports.{Content, line_questions, judge_lines, said, read_report}
use Rattle.wire.proofs.Judging.{stops, goes_on, comes}
use Rattle.wire.proofs.Tails.{after_origin, after_serial, after_age, after_pairs, after_lines}

module _ (t : Tag) (p : ℕ) (b : List ℕ) (more : List Asked) (q : Content) where
  field_stops : (e : ReadFault) → Err e ≡ field_at t p b → judged (field_questions t p b ++ more) q ≡ Err e
  unfolding field_at
  field_stops e h = stops (field_questions t p b) more (field_value t p b) q e (sym h)

  field_goes_on : (x : Value) → Ok x ≡ field_at t p b → judged (field_questions t p b ++ more) q ≡ judged more q
  unfolding field_at
  field_goes_on x h = goes_on (field_questions t p b) more (field_value t p b) x q (sym h)

-- The value that a field was read to.
pub field_comes : (t : Tag) (p : ℕ) (b : List ℕ) (x : Value) → Ok x ≡ field_at t p b → field_value t p b ≡ x
unfolding field_at
field_comes t p b x h = comes (field_questions t p b) (field_value t p b) x (sym h)

module _ (b : List ℕ) where
  pub stops_at_origin : (e : ReadFault) → Err e ≡ field_at tag.Origin 0 b → Err e ≡ read_report b
  unfolding read_report
  stops_at_origin e h = sym (field_stops tag.Origin 0 b (after_origin b) (said b) e h)

  module _ (o : Value) (ho : Ok o ≡ field_at tag.Origin 0 b) where
    pub stops_at_serial : (e : ReadFault) → Err e ≡ field_at tag.Serial 4 b → Err e ≡ read_report b
    unfolding read_report
    stops_at_serial e h = sym (field_goes_on tag.Origin 0 b (after_origin b) (said b) o ho ∙ field_stops tag.Serial 4 b (after_serial b) (said b) e h)

    module _ (s : Value) (hs : Ok s ≡ field_at tag.Serial 4 b) where
      pub stops_at_age : (e : ReadFault) → Err e ≡ field_at tag.Age 8 b → Err e ≡ read_report b
      unfolding read_report
      stops_at_age e h =
          sym (field_goes_on tag.Origin 0 b (after_origin b) (said b) o ho ∙ field_goes_on tag.Serial 4 b (after_serial b) (said b) s hs ∙ field_stops tag.Age 8 b (after_age b) (said b) e h)

      module _ (a : Value) (ha : Ok a ≡ field_at tag.Age 8 b) where
        pub stops_at_pairs : (e : ReadFault) → Err e ≡ field_at tag.Pairs 12 b → Err e ≡ read_report b
        unfolding read_report
        stops_at_pairs e h =
            sym (field_goes_on tag.Origin 0 b (after_origin b) (said b) o ho ∙ field_goes_on tag.Serial 4 b (after_serial b) (said b) s hs ∙ field_goes_on tag.Age 8 b (after_age b) (said b) a ha
            ∙ field_stops tag.Pairs 12 b (after_pairs b) (said b) e h)

        module _ (l : Value) (hl : Ok l ≡ field_at tag.Pairs 12 b) where
          fields_go_on : read_report b ≡ judged (after_pairs b) (said b)
          unfolding read_report
          fields_go_on =
              field_goes_on tag.Origin 0 b (after_origin b) (said b) o ho ∙ field_goes_on tag.Serial 4 b (after_serial b) (said b) s hs ∙ field_goes_on tag.Age 8 b (after_age b) (said b) a ha
              ∙ field_goes_on tag.Pairs 12 b (after_pairs b) (said b) l hl

          pub stops_at_lines : (e : ReadFault) → Err e ≡ judge_lines (get_or b 3 0) 0 15 (lines_of (value_of 12 b)) → Err e ≡ read_report b
          stops_at_lines e h = sym (fields_go_on ∙ stops (line_questions (get_or b 3 0) 0 15 (lines_of (value_of 12 b))) (after_lines b) tt (said b) e (sym h))

          pub ends : Ok tt ≡ judge_lines (get_or b 3 0) 0 15 (lines_of (value_of 12 b))
              → read_report b ≡ (if nat_le (length b) (15 + word 13 b) then Ok (said b) else Err (record { question = question.NothingLeftOver; place = 15 + word 13 b }))
          ends h = fields_go_on ∙ goes_on (line_questions (get_or b 3 0) 0 15 (lines_of (value_of 12 b))) (after_lines b) tt tt (said b) (sym h)
