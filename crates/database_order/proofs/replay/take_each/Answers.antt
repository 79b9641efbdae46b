use Rattle.std.proofs.Common.{◌≡◌, ap, ◌∙◌, arith}
use Rattle.std.proofs.lemmas.List.{take_all, length-map}
use Rattle.database.specs.States.{state}
use Rattle.database_order.specs.Orders.{taken_all, lines_held, bytes_of}
use Rattle.database_order.proofs.Ends.{order_free}
use Rattle.database_order.proofs.Replays.{one_more}
use Rattle.database_order.proofs.replay.take_each.Goals as goal

pub loop-report-preserved : goal.loop-report-preserved
loop-report-preserved c =
    one_more (state c.args.database.now) (state c.loop-report.database) (state c.take.new.self) c.args.reports.now c.loop-report.report-index _ c.loop-report-test.true
    c.loop-report.invariant c.take.ensures.left

pub returns : goal.returns
returns c =
    let s = state c.args.database.now in
    let rs = bytes_of c.args.reports.now in
    let all = take_all c.loop-report.report-index rs (omega (arith, length-map c.args.reports.now (λ x. x.now))) in
    let left : state c.loop-report.database ≡ taken_all s rs = c.loop-report.invariant ∙ ap (taken_all s) all in
    record { left = left; any_order = λ ys same ok. ap lines_held left ∙ order_free s rs ys same ok }
