-- A metric with a floor under its figures. Assumes nothing.
use Rattle.std.specs.Prelude.{ℕ, max}
use Rattle.metric.specs.Meaning.{Meaning}

-- The same metric, but a figure below the floor counts as the floor.
abbrev pub floored : ℕ → Meaning → Meaning
floored least m = record { empty = m.empty; add = λ c f. m.add c (max f least); less = m.less }
