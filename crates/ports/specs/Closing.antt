-- Closing a period.
use Rattle.std.specs.Prelude.{ℕ, Bool, ◌||◌, List, map, Some, None, Option, ◌==◌, if◌then◌else◌}
use Rattle.std.specs.List.{list_any}
use Rattle.rows.specs.declared.row.Row.{Row}
use Rattle.slots.specs.Slots.{State}
use Rattle.slots.specs.Thresholds.{after_period}
use Rattle.slots.specs.Lines.{begun}
use Rattle.slots.specs.Thresholds.{moved}
use Rattle.ports.specs.Held.{Held}
use Rattle.ports.specs.Rows.{own_row}

-- Some slot has moved.
abbrev pub some_moved : ℕ → List State → Bool
some_moved t = list_any (moved t)

-- A report is due: the threshold has run down to 0, or some average has moved from its reported figure by the threshold or more.
abbrev pub due : ℕ → List State → Bool
due t slots = t == 0 || some_moved t slots

-- What a closing leaves: a new period begins on every slot, with all averages as reported figures if a report is due; the threshold is then 640, and else falls by 128.
abbrev pub closing : Held → Held
closing h =
    let report = due h.threshold h.slots in
    record h { slots = map (begun report) h.slots; threshold = after_period report h.threshold }

-- What a closing answers: the lines of the own report if one is due.
abbrev pub closing_row : Held → Option Row
closing_row h = if due h.threshold h.slots then Some (own_row (closing h)) else None
