-- The threshold, and when a line has moved.
use Rattle.std.specs.Prelude.{ℕ, ◌+◌, ◌-◌, Bool, true, false, nat_le}
use Rattle.std.specs.Option.{option_map_or}
use Rattle.slots.specs.Slots.{State}
use Rattle.slots.specs.Lines.{average}
use Rattle.slots.specs.declared.threshold.Threshold.{Threshold}

-- The units of 0.1 ms of a threshold.
abbrev pub threshold_of : Threshold → ℕ
threshold_of t = t.units

-- The threshold at first, and after each own report.
abbrev pub first : ℕ
first = 640

-- The threshold after a period: the first again if there was a report, else it falls by 128.
abbrev pub after_period : Bool → ℕ → ℕ
after_period true t = first
after_period false t = t - 128

-- How far two figures are apart.
abbrev pub difference : ℕ → ℕ → ℕ
difference a b = (a - b) + (b - a)

-- The rule that decides: average and reported figure differ by at least the threshold.
abbrev pub reached : ℕ → ℕ → ℕ → Bool
reached t reported average = nat_le t (difference average reported)

-- The average of an up slot has moved away from its reported figure, by the rule; an unused slot has none.
abbrev pub moved : ℕ → State → Bool
moved t s = option_map_or (λ u. reached t u.reported (average u)) s false
