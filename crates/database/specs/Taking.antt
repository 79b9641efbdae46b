-- What taking a report answers, and what it leaves.
use Rattle.std.specs.Prelude.{ℕ, ◌+◌, ◌-◌, if◌then◌else◌, List, [], ◌∷◌, ◌++◌, length, replicate, Ok, Err, Result, ◌==◌, nat_le}
use Rattle.wire.specs.declared.fault.ReadFault.{ReadFault}
use Rattle.wire.specs.declared.lines.Line.{Line}
use Rattle.wire.specs.Reports.{Content, read_report}
use Rattle.rows.specs.declared.row.Row.{Row}
use Rattle.rows.specs.Rows.{no_line}
use Rattle.entries.specs.declared.entry.Entry.{Entry}
use Rattle.entries.specs.declared.verdicts.Taken.{Taken}
use Rattle.entries.specs.declared.verdicts.Taken.TheVariants as taken
use Rattle.entries.specs.declared.verdicts.Taking.{Taking}
use Rattle.entries.specs.declared.verdicts.TakeFault.{TakeFault}
use Rattle.entries.specs.declared.verdicts.TakeFault.TheVariants as fault
use Rattle.entries.specs.Freshness.{freshness}
use Rattle.entries.specs.Verdicts.{verdict}
use Rattle.database.specs.States.{State, held, entered}

-- Is each neighbour within the count? The first that is not decides, at its byte; a line takes three.
abbrev pub lines_within : ℕ → ℕ → List Line → Result (Unit {0}) TakeFault
lines_within count p [] = Ok tt
lines_within count p (x ∷ xs) = if nat_le x.neighbour count then lines_within count (p + 3) xs else Err (fault.Neighbour p)

-- Is the origin within the count, and then each neighbour? The pairs of a report begin at byte 15.
abbrev pub within : ℕ → Content → Result (Unit {0}) TakeFault
within count q = if nat_le q.header.origin count then lines_within count 15 q.lines else Err fault.Origin

-- What was asked decides whether the report comes.
abbrev pub passed : Result (Unit {0}) TakeFault → Content → Result Content TakeFault
passed (Ok u) q = Ok q
passed (Err e) q = Err e

-- A refused reading is passed up; a report that was read is asked for the count.
abbrev pub admitted : ℕ → Result Content ReadFault → Result Content TakeFault
admitted count (Err e) = Err (fault.Read e)
admitted count (Ok q) = passed (within count q) q

-- The report that the bytes bring to a network of so many nodes, or the first question that is answered no.
abbrev pub heard : ℕ → List ℕ → Result Content TakeFault
heard count b = admitted count (read_report b)

-- What a report is answered.
abbrev pub verdict_on : State → Content → Taken
verdict_on s q = verdict (freshness (held s q.header.origin) q.header.serial) (q.header.origin == s.root)

-- The row of some lines.
abbrev pub row_with : List Line → Row
row_with xs = record { lines = xs ++ replicate (8 - length xs) no_line; used = length xs }

-- The entry that a report makes.
abbrev pub heard_entry : Content → Entry
heard_entry q = record { serial = q.header.serial; age = q.header.age; row = row_with q.lines }

-- What a report leaves, by its answer.
abbrev pub settled : State → Content → Taken → State
-- Accepted: it replaces the entry of its origin, and no other.
settled s q taken.Accepted = entered s q.header.origin (heard_entry q)
-- Own, duplicate and older: nothing changes.
settled s q taken.Own = s
settled s q taken.Duplicate = s
settled s q taken.Older = s

-- The answer, where the report was not refused.
abbrev pub answer_to : State → Result Content TakeFault → Result Taking TakeFault
answer_to s (Ok q) = Ok (record { header = q.header; taken = verdict_on s q })
answer_to s (Err e) = Err e

-- What is left; a refusal changes nothing.
abbrev pub left_by : State → Result Content TakeFault → State
left_by s (Ok q) = settled s q (verdict_on s q)
left_by s (Err e) = s

-- What taking the bytes answers,
abbrev pub take_answer : State → List ℕ → Result Taking TakeFault
take_answer s b = answer_to s (heard s.count b)

-- and what it leaves.
abbrev pub take_state : State → List ℕ → State
take_state s b = left_by s (heard s.count b)
