-- Plain numbers as quantities that have a range, and back.
use Rattle.std.specs.Prelude.{ℕ, ◌≤◌, if◌then◌else◌, ◌&&◌, Some, None, Ok, Err, Option, Result, nat_le}
use Rattle.timing.specs.declared.quantity.Quantity.{Quantity}
use Rattle.timing.specs.declared.quantity.OutOfRange.{OutOfRange}

-- a number, if it lies in low to high
abbrev pub within : ℕ → ℕ → ℕ → Option ℕ
within low high n = if nat_le low n && nat_le n high then Some n else None

-- the number of a quantity: the words of a packet's length, the units of 0.1 ms of a propagation or a delay
abbrev pub units_of : {least most : ℕ} → Quantity least most → ℕ
units_of q = q.units

-- that number, where a conversion gave a quantity
abbrev pub ok_units : {least most : ℕ} → Result (Quantity least most) OutOfRange → Result ℕ OutOfRange
ok_units (Ok q) = Ok (units_of q)
ok_units (Err e) = Err e

-- a quantity lies in the range of its type
abbrev pub InRange : {least most : ℕ} → Quantity least most → Type 0
InRange {least} {most} q = (least ≤ units_of q) × (units_of q ≤ most)
