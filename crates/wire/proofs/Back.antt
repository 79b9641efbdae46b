-- The form of an allowed report reads as what it says.
use Rattle.std.proofs.Common.{◌≡◌, ℕ, ◌+◌, ◌*◌, ◌%◌, ◌≤◌, Bool, true, false, nat_le, List, length, get_or, Ok, refl, ap, ◌∙◌, arith}
use Rattle.std.proofs.lemmas.List.{take_all}
use Rattle.std.proofs.lemmas.Bool.{le-leb, eq-eqb, and_from}
use Rattle.std.proofs.lemmas.Bool.Decides.{nat_tests}
use Rattle.wire.specs.declared.field.Tag.{Tag}
use Rattle.wire.specs.declared.field.Tag.TheVariants as tag
use Rattle.wire.specs.Fields.{word, value_of, tag_number, field_questions}
use Rattle.wire.specs.Lines.{lines_of, pair_bytes}
use Rattle.wire.specs.Reports.{Content, Allowed, line_questions, said, report_questions, read_report}
use Rattle.wire.specs.Form.{age_byte, encode}
use Rattle.wire.specs.Laws.{Returned}
use Rattle.wire.proofs.Judging.{AllYes, passes, yes_join}
use Rattle.wire.proofs.Pairs.{pairs_length, lines_back, unquestioned}
use Rattle.wire.proofs.Passed.{Passed}
use Rattle.wire.proofs.Tails.{after_origin, after_serial, after_age, after_pairs, after_lines}

-- A field whose facts hold is asked nothing in vain.
asks : (t : Tag) (p : ℕ) (b : List ℕ) → Passed t p b → AllYes (field_questions t p b)
asks t p b h = (
  le-leb (p + 3) (length b) (omega (arith, h.there)),
  (eq-eqb (get_or b p 0) (tag_number t) h.tagged, (h.size, (le-leb (p + 3 + word (p + 1) b) (length b) h.there, (h.good, tt)))),
)

-- the age's byte, taken apart again
low : (a : ℕ) (r : Bool) → a ≤ 7 → age_byte a r % 128 ≡ a
low a true h = omega arith
low a false h = omega arith

high : (a : ℕ) (r : Bool) → a ≤ 7 → nat_le 128 (age_byte a r) ≡ r
high a true h = grind (arith, nat_tests)
high a false h = grind (arith, nat_tests)

module _ (q : Content) (ok : Allowed q) where
  three : length (pair_bytes q.lines) ≡ 3 * length q.lines
  three = pairs_length q.lines

  long : length (encode q) ≡ 15 + length (pair_bytes q.lines)
  long = omega arith

  size : word 13 (encode q) ≡ length (pair_bytes q.lines)
  size = omega (arith, three, ok.few)

  part : value_of 12 (encode q) ≡ pair_bytes q.lines
  part = rw size (take_all (length (pair_bytes q.lines)) (pair_bytes q.lines) (omega arith))

  origin_asks : AllYes (field_questions tag.Origin 0 (encode q))
  origin_asks = asks tag.Origin 0 (encode q) (record {
    tagged = refl;
    size = refl;
    there = omega (arith, long);
    good = and_from _ _ (le-leb 1 _ ok.origin_low) (le-leb _ 64 ok.origin_high);
  })

  serial_asks : AllYes (field_questions tag.Serial 4 (encode q))
  serial_asks = asks tag.Serial 4 (encode q) (record { tagged = refl; size = refl; there = omega (arith, long); good = le-leb _ 63 ok.serial_high })

  age_asks : AllYes (field_questions tag.Age 8 (encode q))
  age_asks = asks tag.Age 8 (encode q) (record {
    tagged = refl;
    size = refl;
    there = omega (arith, long);
    good = rw (low q.header.age q.header.retry ok.age_high) (and_from _ _ (le-leb 1 _ ok.age_low) (le-leb _ 7 ok.age_high));
  })

  pairs_asks : AllYes (field_questions tag.Pairs 12 (encode q))
  pairs_asks = asks tag.Pairs 12 (encode q) (record {
    tagged = refl;
    size = rw size (and_from _ _ (eq-eqb (length (pair_bytes q.lines) % 3) 0 (omega (arith, three))) (le-leb (length (pair_bytes q.lines)) 24 (omega (arith, three, ok.few))));
    there = rw size (omega (arith, long));
    good = refl;
  })

  lines_asks : AllYes (line_questions q.header.origin 0 15 (lines_of (value_of 12 (encode q))))
  lines_asks = rw (part, lines_back q.lines) (unquestioned q.header.origin 0 15 q.lines ok.lawful)

  all_asks : AllYes (report_questions (encode q))
  all_asks =
      yes_join (field_questions tag.Origin 0 (encode q)) (after_origin (encode q)) origin_asks
      (yes_join (field_questions tag.Serial 4 (encode q)) (after_serial (encode q)) serial_asks
      (yes_join (field_questions tag.Age 8 (encode q)) (after_age (encode q)) age_asks
      (yes_join (field_questions tag.Pairs 12 (encode q)) (after_pairs (encode q)) pairs_asks
      (yes_join (line_questions q.header.origin 0 15 (lines_of (value_of 12 (encode q)))) (after_lines (encode q)) lines_asks
      (rw size (le-leb (length (encode q)) (15 + length (pair_bytes q.lines)) (omega (arith, long))), tt)))))

  same : said (encode q) ≡ q
  same = rw (part, lines_back q.lines, low q.header.age q.header.retry ok.age_high, high q.header.age q.header.retry ok.age_high)

pub returned : Returned
unfolding read_report
returned q ok = passes (report_questions (encode q)) (said (encode q)) (all_asks q ok) ∙ ap Ok (same q ok)
