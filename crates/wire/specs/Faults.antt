-- The numbers of the refusals, and what "the first no decides" means.
use Rattle.std.specs.Prelude.{ℕ, Bool, if◌then◌else◌, List, [], ◌∷◌, ◌++◌, Ok, Err, Result, codes}
use Rattle.std.specs.Fmt.{decimal}
use Rattle.wire.specs.declared.fault.Question.{Question}
use Rattle.wire.specs.declared.fault.Question.TheVariants as question
use Rattle.wire.specs.declared.fault.ReadFault.{ReadFault}

-- The number by which each question of reading is refused.
abbrev pub read_number : Question → ℕ
read_number question.ThreeBytesLeft = 11
read_number question.ExpectedTag = 12
read_number question.PermittedLength = 13
read_number question.ValueAllThere = 14
read_number question.PermittedValue = 15
read_number question.PermittedNeighbour = 16
read_number question.FigureNotZero = 17
read_number question.NothingLeftOver = 18

-- A refusal in print: its number, and for a fault its place.
abbrev pub question_text : Question → List ℕ
question_text q = codes "refused " ++ decimal (read_number q)

abbrev pub fault_text : ReadFault → List ℕ
fault_text e = question_text e.question ++ (codes " at " ++ decimal e.place)

-- A question as it was put: whether the answer is yes, which question it is, and the byte that a no is placed at.
pub record Asked : Type 0 where
  pub yes : Bool
  pub question : Question
  pub place : ℕ

-- A question, put.
abbrev pub asked : Bool → Question → ℕ → Asked
asked y q p = record { yes = y; question = q; place = p }

-- A no to a question at a place.
abbrev pub no_at : Question → ℕ → ReadFault
no_at q p = record { question = q; place = p }

-- The first no decides; where every answer is yes, the value comes.
abbrev pub judged : {X : Type 0} → List Asked → X → Result X ReadFault
judged [] x = Ok x
judged (a ∷ more) x = if a.yes then judged more x else Err (no_at a.question a.place)
