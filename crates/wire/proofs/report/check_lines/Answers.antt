use Rattle.std.proofs.Common.{◌≡◌, ◌+◌, ◌*◌, rules, arith}
use Rattle.std.specs.Iterator.Adapters.{enumerate_count}
use Rattle.wire.proofs.report.check_lines.Goals as goal

pub loop-i-preserved : goal.loop-i-preserved
loop-i-preserved c =
    let steps = c.in-Some.ensures.steps in
    let place : 15 + 3 * enumerate_count c.next.new.self ≡ 15 + 3 * enumerate_count c.loop-i.i-iterator + 3 = omega arith in
    (search rules, search rules, rw place (search rules), search rules)
