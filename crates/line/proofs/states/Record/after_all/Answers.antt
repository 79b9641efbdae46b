use Rattle.std.proofs.Common.{rules, ◌≡◌, List, subst}
use Rattle.line.specs.Moves.{shown}
use Rattle.line.specs.Courses.{Course}
use Rattle.line.specs.declared.messages.Message.{Message}
use Rattle.line.proofs.states.Record.after_all.Goals as goal

pub returns-clause-course : goal.returns-clause-course
returns-clause-course c =
    let each = c.after_each.ensures in
    let gave : each.0.items ≡ c.args.messages.now = search rules in
    subst (λ (ms : List Message). Course (shown c.args.self).state ms (shown c.after_each.result).state) gave each.3.course
