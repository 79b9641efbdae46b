-- Which report of an origin is newer.
use Rattle.std.specs.Prelude.{◌≡◌, ◌⊎◌, Bool, if◌then◌else◌, ◌&&◌, ◌||◌, ℕ, ◌+◌, ◌-◌, ◌%◌, ◌≤◌, nat_le, ◌==◌, ◌≢◌}
use Rattle.entries.specs.declared.entry.Entry.{Entry}
use Rattle.entries.specs.declared.freshness.Freshness.{Freshness}
use Rattle.entries.specs.declared.freshness.Freshness.TheVariants as compared

-- How far a serial is ahead of the held one: new minus held, modulo 64.
abbrev pub ahead : ℕ → ℕ → ℕ
ahead new held = (new % 64 + 64 - held % 64) % 64

-- A report is newer where nothing is in force, or where its serial is 1 to 31 ahead of the held one.
abbrev pub newer : Entry → ℕ → Bool
newer held new = held.age == 0 || (nat_le 1 (ahead new held.serial) && nat_le (ahead new held.serial) 31)

-- What a report with this serial is to the entry.
abbrev pub freshness : Entry → ℕ → Freshness
freshness held new = if newer held new then compared.Newer else (if new == held.serial then compared.Duplicate else compared.Older)

-- The entry is in force, and the serial is not 1 to 31 ahead of it.
abbrev pub NotNewer : Entry → ℕ → Type 0
NotNewer held new = (1 ≤ held.age) × ((1 ≤ ahead new held.serial) → 32 ≤ ahead new held.serial)

-- When each of the three comes.
abbrev pub Comes : Entry → ℕ → Freshness → Type 0
-- Newer: the entry has lapsed, or the serial is 1 to 31 ahead.
Comes held new compared.Newer = (held.age ≡ 0) ⊎ ((1 ≤ ahead new held.serial) × (ahead new held.serial ≤ 31))
-- Duplicate: not newer, and the same serial.
Comes held new compared.Duplicate = NotNewer held new × (new ≡ held.serial)
-- Older: the rest.
Comes held new compared.Older = NotNewer held new × (new ≢ held.serial)
