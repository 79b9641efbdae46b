-- What writing a report from the database answers, and what it leaves in the buffer.
use Rattle.std.specs.Prelude.{ℕ, Bool, if◌then◌else◌, ◌&&◌, List, Ok, Err, Result, nat_le, nat_lt, codes, ◌++◌}
use Rattle.std.specs.Fmt.{decimal}
use Rattle.wire.specs.Reports.{Content}
use Rattle.wire.specs.Form.{encode}
use Rattle.wire_write.specs.declared.write.WriteFault.{WriteFault}
use Rattle.wire_write.specs.Putting.{write_number, put, put_answer}
use Rattle.rows.specs.Rows.{lines_in}
use Rattle.entries.specs.declared.entry.Entry.{Entry}
use Rattle.database.specs.States.{State, held}
use Rattle.database_write.specs.declared.entry.EntryFault.{EntryFault}
use Rattle.database_write.specs.declared.entry.EntryFault.TheVariants as fault

-- The number of each refusal.
abbrev pub entry_number : EntryFault → ℕ
entry_number fault.Origin = 25
entry_number fault.Lapsed = 26
entry_number (fault.Write e) = write_number e

-- What a refusal prints: its number.
abbrev pub entry_text : EntryFault → List ℕ
entry_text f = codes "refused " ++ decimal (entry_number f)

-- The report of an entry: its serial, its age and its lines. The retry flag is the caller's to give.
abbrev pub report_from : ℕ → Bool → Entry → Content
report_from origin retry e =
    record { header = record { origin = origin; serial = e.serial; age = e.age; retry = retry }; lines = lines_in e.row }

-- The report of the entry that is held for an origin.
abbrev pub report_of : State → ℕ → Bool → Content
report_of s origin retry = report_from origin retry (held s origin)

-- The answer of a writing, as that of a writing from the database.
abbrev pub after_put : Result ℕ WriteFault → Result ℕ EntryFault
after_put (Ok n) = Ok n
after_put (Err e) = Err (fault.Write e)

-- Origin in 1 to the count? Age above 0? Buffer long enough? The first no decides; else the answer is the report's length.
abbrev pub entry_answer : State → ℕ → Bool → List ℕ → Result ℕ EntryFault
entry_answer s origin retry old =
    if nat_le 1 origin && nat_le origin s.count
    then (if nat_lt 0 (held s origin).age then after_put (put_answer (encode (report_of s origin retry)) old) else Err fault.Lapsed)
    else Err fault.Origin

-- The report stands at the start of the buffer, and nothing behind it is altered; a refusal leaves the buffer as it was.
abbrev pub entry_buffer : State → ℕ → Bool → List ℕ → List ℕ
entry_buffer s origin retry old =
    if nat_le 1 origin && nat_le origin s.count then (if nat_lt 0 (held s origin).age then put (encode (report_of s origin retry)) old else old) else old
