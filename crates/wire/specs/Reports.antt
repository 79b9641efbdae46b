-- What the bytes of a whole report mean, and what a report may say.
use Rattle.std.specs.Prelude.{ℕ, ◌+◌, ◌%◌, ◌<◌, ◌≤◌, not, ◌&&◌, List, [], ◌∷◌, ◌++◌, length, Ok, Err, Result, ◌==◌, ◌≢◌, nat_le, nat_lt, slice_index}
use Rattle.wire.specs.declared.fault.ReadFault.{ReadFault}
use Rattle.wire.specs.declared.fault.Question.TheVariants as question
use Rattle.wire.specs.declared.field.Tag.TheVariants as tag
use Rattle.wire.specs.declared.lines.Line.{Line}
use Rattle.wire.specs.declared.report.Header.{Header}
use Rattle.wire.specs.declared.report.Report.{Report}
use Rattle.wire.specs.Faults.{Asked, asked, judged}
use Rattle.wire.specs.Lines.{lines_of}
use Rattle.wire.specs.Fields.{word, value_of, field_questions}

-- What a report says: its header and its lines.
pub record Content : Type 0 where
  pub header : Header
  pub lines : List Line

-- The lines of one origin may be these: neighbours rise strictly from above `previous` to at most 64 and leave out the origin, and no figure is 0.
abbrev pub Lawful : ℕ → ℕ → List Line → Type 0
Lawful origin previous [] = Unit {0}
Lawful origin previous (x ∷ xs) =
    (previous < x.neighbour) × (x.neighbour ≤ 64) × (x.neighbour ≢ origin) × (1 ≤ x.figure) × (x.figure ≤ 65535)
    × Lawful origin x.neighbour xs

-- What a report may say.
pub record Allowed (q : Content) : Type 0 where
  pub origin_low : 1 ≤ q.header.origin
  pub origin_high : q.header.origin ≤ 64
  pub serial_high : q.header.serial ≤ 63
  pub age_low : 1 ≤ q.header.age
  pub age_high : q.header.age ≤ 7
  pub few : length q.lines ≤ 8
  pub lawful : Lawful q.header.origin 0 q.lines

-- The questions on the lines, pair by pair: is the neighbour permitted, and is the figure not 0; each is placed at its first byte.
abbrev pub line_questions : ℕ → ℕ → ℕ → List Line → List Asked
line_questions origin previous p [] = []
line_questions origin previous p (x ∷ xs) =
    asked (nat_lt previous x.neighbour && (nat_le x.neighbour 64 && not (x.neighbour == origin))) question.PermittedNeighbour p
    ∷ asked (not (x.figure == 0)) question.FigureNotZero (p + 1)
    ∷ line_questions origin x.neighbour (p + 3) xs

-- The first of these questions that is answered no, or none.
abbrev pub judge_lines : ℕ → ℕ → ℕ → List Line → Result (Unit {0}) ReadFault
judge_lines origin previous p xs = judged (line_questions origin previous p xs) tt

-- What the bytes of a report say. Its fields begin at 0, 4, 8 and 12, and its pairs at 15.
abbrev pub said : List ℕ → Content
said b =
    record {
      header = record { origin = slice_index b 3; serial = slice_index b 7; age = slice_index b 11 % 128; retry = nat_le 128 (slice_index b 11) };
      lines = lines_of (value_of 12 b);
    }

-- All questions that are asked of the bytes of a report, in their order.
abbrev pub report_questions : List ℕ → List Asked
report_questions b =
    field_questions tag.Origin 0 b
    ++ (field_questions tag.Serial 4 b
    ++ (field_questions tag.Age 8 b
    ++ (field_questions tag.Pairs 12 b
    ++ (line_questions (slice_index b 3) 0 15 (lines_of (value_of 12 b))
    ++ asked (nat_le (length b) (15 + word 13 b)) question.NothingLeftOver (15 + word 13 b) ∷ []))))

-- The report that the bytes hold, or the first question that is answered no.
unfoldable pub read_report : List ℕ → Result Content ReadFault
read_report b = judged (report_questions b) (said b)

-- What a report that was read says.
abbrev pub content : Report → Content
content r = record { header = r.header; lines = lines_of r.pairs.now }

-- The answer of the report reader, by what it says.
abbrev pub shown_report : Result Report ReadFault → Result Content ReadFault
shown_report (Ok r) = Ok (content r)
shown_report (Err e) = Err e
