-- What the questions of a report say once they are all answered yes.
use Rattle.std.proofs.Common.{◌≡◌, ℕ, ◌+◌, ◌≤◌, true, List, length, get_or}
use Rattle.std.proofs.lemmas.Bool.{leb-true, eqb-true}
use Rattle.wire.specs.declared.field.Tag.{Tag}
use Rattle.wire.specs.declared.field.Tag.TheVariants as tag
use Rattle.wire.specs.Fields.{word, value_of, tag_number, permitted_length, permitted_value, field_questions}
use Rattle.wire.specs.Lines.{lines_of}
use Rattle.wire.specs.Reports.{line_questions, report_questions}
use Rattle.wire.proofs.Judging.{AllYes, yes_split}
use Rattle.wire.proofs.Tails.{after_origin, after_serial, after_age, after_pairs, after_lines}

-- The field at p passed.
pub record Passed (t : Tag) (p : ℕ) (b : List ℕ) : Type 0 where
  pub tagged : get_or b p 0 ≡ tag_number t
  pub size : permitted_length t (word (p + 1) b) ≡ true
  pub there : p + 3 + word (p + 1) b ≤ length b
  pub good : permitted_value t (get_or b (p + 3) 0) ≡ true

pub passed : (t : Tag) (p : ℕ) (b : List ℕ) → AllYes (field_questions t p b) → Passed t p b
passed t p b h =
    record {
      tagged = eqb-true (get_or b p 0) (tag_number t) h.1.0;
      size = h.1.1.0;
      there = leb-true (p + 3 + word (p + 1) b) (length b) h.1.1.1.0;
      good = h.1.1.1.1.0;
    }

-- All fields passed, so did the lines, and nothing was left over.
pub record AllPassed (b : List ℕ) : Type 0 where
  pub origin : Passed tag.Origin 0 b
  pub serial : Passed tag.Serial 4 b
  pub age : Passed tag.Age 8 b
  pub pairs : Passed tag.Pairs 12 b
  pub lines : AllYes (line_questions (get_or b 3 0) 0 15 (lines_of (value_of 12 b)))
  pub whole : length b ≤ 15 + word 13 b

pub all_passed : (b : List ℕ) → AllYes (report_questions b) → AllPassed b
all_passed b h =
    let o = yes_split (field_questions tag.Origin 0 b) (after_origin b) h in
    let s = yes_split (field_questions tag.Serial 4 b) (after_serial b) o.1 in
    let a = yes_split (field_questions tag.Age 8 b) (after_age b) s.1 in
    let l = yes_split (field_questions tag.Pairs 12 b) (after_pairs b) a.1 in
    let e = yes_split (line_questions (get_or b 3 0) 0 15 (lines_of (value_of 12 b))) (after_lines b) l.1 in
    record {
      origin = passed tag.Origin 0 b o.0;
      serial = passed tag.Serial 4 b s.0;
      age = passed tag.Age 8 b a.0;
      pairs = passed tag.Pairs 12 b l.0;
      lines = e.0;
      whole = leb-true (length b) (15 + word 13 b) e.1.0;
    }
