-- The questions that are still to be asked after each part of a report.
use Rattle.std.proofs.Common.{ℕ, ◌+◌, nat_le, List, [], ◌∷◌, ◌++◌, length, get_or}
use Rattle.wire.specs.declared.fault.Question.TheVariants as question
use Rattle.wire.specs.declared.field.Tag.TheVariants as tag
use Rattle.wire.specs.Faults.{Asked, asked}
use Rattle.wire.specs.Lines.{lines_of}
use Rattle.wire.specs.Fields.{word, value_of, field_questions}
use Rattle.wire.specs.Reports.{line_questions}

module _ (b : List ℕ) where
  abbrev pub after_lines : List Asked
  after_lines = asked (nat_le (length b) (15 + word 13 b)) question.NothingLeftOver (15 + word 13 b) ∷ []

  abbrev pub after_pairs : List Asked
  after_pairs = line_questions (get_or b 3 0) 0 15 (lines_of (value_of 12 b)) ++ after_lines

  abbrev pub after_age : List Asked
  after_age = field_questions tag.Pairs 12 b ++ after_pairs

  abbrev pub after_serial : List Asked
  after_serial = field_questions tag.Age 8 b ++ after_age

  abbrev pub after_origin : List Asked
  after_origin = field_questions tag.Serial 4 b ++ after_serial
