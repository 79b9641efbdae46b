-- What the database holds of one node, when it is sound, and how it ages.
use Rattle.std.specs.Prelude.{Bool, ◌&&◌, ◌||◌, [], ℕ, ◌-◌, nat_le, ◌==◌}
use Rattle.rows.specs.Rows.{no_row, lines_in, allowed_row, figures_fit}
use Rattle.entries.specs.declared.entry.Entry.{Entry}

-- The entry of a node that nothing was heard of: serial 0, age 0, no lines.
abbrev pub fresh : Entry
fresh = record { serial = 0; age = 0; row = no_row }

-- What stands at a number that no node has.
abbrev pub missing : Entry
missing = record { serial = 0; age = 0; row = record { lines = []; used = 0 } }

-- Nothing was heard of the node.
abbrev pub unheard : Entry → Bool
unheard e = e.serial == 0 && (e.age == 0 && e.row.used == 0)

-- An entry may be that of this node in a network of so many: serial, age and figures lie in range, the lines may leave the node, and past the count nothing was heard.
abbrev pub sound_entry : ℕ → ℕ → Entry → Bool
sound_entry count node e =
    nat_le e.serial 63 && (nat_le e.age 7 && (allowed_row count node e.row && (figures_fit (lines_in e.row) && (unheard e || nat_le node count))))

-- An entry a period later: an age above 0 is lowered by 1, and the lines stay, also at age 0.
abbrev pub aged : Entry → Entry
aged e = record { serial = e.serial; age = e.age - 1; row = e.row }

-- The age becomes 0 with the next period.
abbrev pub lapsing : Entry → Bool
lapsing e = e.age == 1
