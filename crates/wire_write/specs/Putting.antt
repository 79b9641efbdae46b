-- What writing leaves in a buffer, and what it answers.
use Rattle.std.specs.Prelude.{ℕ, if◌then◌else◌, List, ◌++◌, length, drop, Ok, Err, Result, nat_le, codes}
use Rattle.std.specs.Fmt.{decimal}
use Rattle.wire.specs.Reports.{Content}
use Rattle.wire_write.specs.declared.write.Draft.{Draft}
use Rattle.wire_write.specs.declared.write.WriteFault.{WriteFault}
use Rattle.wire_write.specs.declared.write.WriteFault.TheVariants.{BufferTooShort}

-- The number by which a writing is refused.
abbrev pub write_number : WriteFault → ℕ
write_number BufferTooShort = 27

-- The refusal in print.
abbrev pub write_text : WriteFault → List ℕ
write_text e = codes "refused " ++ decimal (write_number e)

-- What a draft says.
abbrev pub drafted : Draft → Content
drafted d = record { header = d.header; lines = d.lines.now }

-- Writing bytes answers how many they are, where the buffer is long enough.
abbrev pub put_answer : List ℕ → List ℕ → Result ℕ WriteFault
put_answer new old = if nat_le (length new) (length old) then Ok (length new) else Err BufferTooShort

-- Writing bytes puts them at the start of the buffer and alters nothing behind them; a buffer that is too short stays as it was.
abbrev pub put : List ℕ → List ℕ → List ℕ
put new old = if nat_le (length new) (length old) then new ++ drop (length new) old else old
