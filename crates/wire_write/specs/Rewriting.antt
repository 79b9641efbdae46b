-- What reading bytes and writing the report again leaves.
use Rattle.std.specs.Prelude.{ℕ, List, Ok, Err, Result}
use Rattle.wire.specs.declared.fault.ReadFault.{ReadFault}
use Rattle.wire_write.specs.declared.write.WriteFault.{WriteFault}
use Rattle.wire_write.specs.declared.rewrite.RewriteFault.{RewriteFault}
use Rattle.wire_write.specs.declared.rewrite.RewriteFault.TheVariants.{Read, Write}
use Rattle.wire.specs.Faults.{read_number, fault_text}
use Rattle.wire_write.specs.Putting.{write_number, write_text, put, put_answer}
use Rattle.wire.specs.Reports.{Content, read_report}

-- The number of either refusal.
abbrev pub rewrite_number : RewriteFault → ℕ
rewrite_number (Read e) = read_number e.question
rewrite_number (Write e) = write_number e

-- The refusal in print: that of the reading, with its place, or that of the writing.
abbrev pub rewrite_text : RewriteFault → List ℕ
rewrite_text (Read e) = fault_text e
rewrite_text (Write e) = write_text e

-- The answer of a writing, as that of a rewriting.
abbrev pub after_read : Result ℕ WriteFault → Result ℕ RewriteFault
after_read (Ok n) = Ok n
after_read (Err e) = Err (Write e)

-- A refused reading answers its fault; otherwise the very bytes that came in are written.
abbrev pub answer_of : Result Content ReadFault → List ℕ → List ℕ → Result ℕ RewriteFault
answer_of (Err e) b old = Err (Read e)
answer_of (Ok q) b old = after_read (put_answer b old)

-- The buffer of a refused reading stays as it was; otherwise the very bytes that came in stand at its start.
abbrev pub buffer_of : Result Content ReadFault → List ℕ → List ℕ → List ℕ
buffer_of (Err e) b old = old
buffer_of (Ok q) b old = put b old

-- What rewriting the bytes b into the buffer answers,
abbrev pub rewrite_answer : List ℕ → List ℕ → Result ℕ RewriteFault
rewrite_answer b old = answer_of (read_report b) b old

-- and what it leaves there.
abbrev pub rewrite_buffer : List ℕ → List ℕ → List ℕ
rewrite_buffer b old = buffer_of (read_report b) b old
