-- What an own report leaves.
use Rattle.std.specs.Prelude.{ℕ, ◌+◌, ◌%◌, if◌then◌else◌, Some, None, Option}
use Rattle.rows.specs.declared.row.Row.{Row}
use Rattle.rows.specs.Rows.{allowed_row}
use Rattle.entries.specs.declared.entry.Entry.{Entry}
use Rattle.database.specs.States.{State, held, entered}

-- The serial of the next own report: one more, modulo 64.
abbrev pub next_serial : State → ℕ
next_serial s = ((held s s.root).serial + 1) % 64

-- The entry that an own report makes: the next serial, age 7, and the given lines.
abbrev pub own_entry : State → Row → Entry
own_entry s row = record { serial = next_serial s; age = 7; row = row }

-- An own report answers its serial; lines that may not leave the root are refused.
abbrev pub originate_answer : State → Row → Option ℕ
originate_answer s row = if allowed_row s.count s.root row then Some (next_serial s) else None

-- It replaces the root's entry, and no other; a refusal changes nothing.
abbrev pub originate_state : State → Row → State
originate_state s row = if allowed_row s.count s.root row then entered s s.root (own_entry s row) else s
