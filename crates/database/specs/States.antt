-- The database by what it holds, how it begins and ages, and what is read from it.
use Rattle.std.specs.Prelude.{ℕ, ◌-◌, if◌then◌else◌, ◌&&◌, List, map, replicate, Some, None, Ok, Err, count_by, Option, Result, nat_le, slice_index_or, slice_set, codes, ◌++◌}
use Rattle.std.specs.Fmt.{decimal}
use Rattle.rows.specs.declared.row.Row.{Row}
use Rattle.rows.specs.Rows.{no_row}
use Rattle.entries.specs.declared.entry.Entry.{Entry}
use Rattle.database.specs.declared.types.Database.{Database}
use Rattle.database.specs.declared.making.StartFault.{StartFault}
use Rattle.database.specs.declared.making.StartFault.TheVariants as fault
use Rattle.entries.specs.Entries.{fresh, missing, aged, lapsing}

-- What a database holds: how many nodes there are, which of them keeps it, and an entry for each number.
pub record State : Type 0 where
  pub count : ℕ
  pub root : ℕ
  pub entries : List Entry

-- A database by what it holds.
abbrev pub state : Database → State
state d = record { count = d.count; root = d.root; entries = d.entries }

-- The number of each refusal of a start.
abbrev pub start_number : StartFault → ℕ
start_number fault.Count = 1
start_number fault.Root = 2

-- What a refusal prints: its number.
abbrev pub start_text : StartFault → List ℕ
start_text f = codes "refused " ++ decimal (start_number f)

-- A fresh database: nothing was heard of any node.
abbrev pub fresh_state : ℕ → ℕ → State
fresh_state count root = record { count = count; root = root; entries = replicate 64 fresh }

-- Starting asks whether the count lies in 1 to 64, then whether the node's number lies in 1 to the count.
abbrev pub starting : ℕ → ℕ → Result State StartFault
starting count root =
    if nat_le 1 count && nat_le count 64 then (if nat_le 1 root && nat_le root count then Ok (fresh_state count root) else Err fault.Root) else Err fault.Count

-- The answer of a start, by what the database holds.
abbrev pub shown_start : Result Database StartFault → Result State StartFault
shown_start (Ok d) = Ok (state d)
shown_start (Err e) = Err e

-- The entry that is held for a number.
abbrev pub held : State → ℕ → Entry
held s node = slice_index_or s.entries (node - 1) missing

-- The entry of a node; none for a number that is not in 1 to the count.
abbrev pub entry_of : State → ℕ → Option Entry
entry_of s node = if nat_le 1 node && nat_le node s.count then Some (held s node) else None

-- The age of a node's report; 0 for a number that is not in 1 to the count.
abbrev pub age_of : State → ℕ → ℕ
age_of s node = if nat_le 1 node && nat_le node s.count then (held s node).age else 0

-- The lines that leave a node; none for a number that is not in 1 to the count.
abbrev pub row_of : State → ℕ → Row
row_of s node = if nat_le 1 node && nat_le node s.count then (held s node).row else no_row

-- The state with another entry for one node, and everything else as it was.
abbrev pub entered : State → ℕ → Entry → State
entered s node e = record { count = s.count; root = s.root; entries = slice_set s.entries (node - 1) e }

-- The state a period later: every entry is aged, the root's too.
abbrev pub aged_state : State → State
aged_state s = record { count = s.count; root = s.root; entries = map aged s.entries }

-- How many ages become 0 with the next period.
abbrev pub lapses : State → ℕ
lapses s = count_by lapsing s.entries
