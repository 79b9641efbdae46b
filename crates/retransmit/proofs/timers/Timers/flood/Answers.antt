use Rattle.std.proofs.Common.{◌≡◌, ◌+◌, ◌∙◌, arith}
use Rattle.retransmit.specs.Timers.{armed_on}
use Rattle.retransmit.proofs.Every.{Full, column_none, column_set}
use Rattle.retransmit.proofs.timers.Timers.flood.Goals as goal

pub returns-then-place-ge64 : goal.returns-then-place-ge64
returns-then-place-ge64 c =
    let ts = c.args.self.now.left in
    let h : Full ts = record { full = c.args.self.now.full; each = c.args.self.now.each } in
    column_none ts h c.args.origin (armed_on c.args.slots c.args.arrival) (λ p q. omega arith)

pub returns : goal.returns
returns c =
    let ts = c.args.self.now.left in
    let h : Full ts = record { full = c.args.self.now.full; each = c.args.self.now.each } in
    let is : c.place-place.result + 1 ≡ c.args.origin = omega arith in
    column_set ts h c.args.origin (armed_on c.args.slots c.args.arrival) c.place-place.result c.loop-slot.timers-items is c.if-place-ge64.false (c.loop-slot.invariant.size ∙ h.full) (λ k l. c.loop-slot.invariant.done k (omega arith))
