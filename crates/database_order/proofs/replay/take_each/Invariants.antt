use Rattle.std.proofs.Common.{◌≡◌, take}
use Rattle.database.specs.States.{state}
use Rattle.database_order.specs.Orders.{taken_all, bytes_of}
use Rattle.database_order.proofs.replay.take_each.Given as goal

-- those that were passed are taken
abbrev pub invariant-loop-report : goal.invariant-loop-report
invariant-loop-report l = state l.database ≡ taken_all (state l.initial.database) (take l.report-index (bytes_of l.reports))
