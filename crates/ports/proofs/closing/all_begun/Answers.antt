-- Each slot has begun its period.
use Rattle.std.proofs.Common.{rules, arith}
use Rattle.slots.specs.Slots.{shown}
use Rattle.slots.specs.Lines.{begun}
use Rattle.ports.proofs.Mapped.{map_is}
use Rattle.ports.proofs.closing.all_begun.Goals as goal

pub returns : goal.returns
returns c = map_is _ shown shown (begun c.args.report) (λ x y q k. search rules) c.args.slots c.map.result 8 c.map.ensures.items (omega arith)
