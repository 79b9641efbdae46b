use Rattle.std.proofs.Common.{rules}
use Rattle.wire.proofs.Walk.{first_line}
use Rattle.wire.proofs.lines.LinesIterator.next.Goals as goal

pub returns-clause-steps : goal.returns-clause-steps
returns-clause-steps c = search (rules, first_line)
