-- The neighbour is another node of the network, and no slot is up to it.
use Rattle.std.proofs.Common.{◌≡◌, ℕ, map, sym, ap, ◌∙◌, arith}
use Rattle.ports.specs.Rows.{served}
use Rattle.slots.specs.Slots.{UpLine, shown, line_of}
use Rattle.ports.proofs.Placing.{place_new}
use Rattle.ports.proofs.ports.Ports.raise.Goals as goal

pub put-requires-clause-fits : goal.put-requires-clause-fits
put-requires-clause-fits c =
    let p = c.args.self.now in
    let new = line_of c.raised.result in
    let same : new.neighbour ≡ c.neighbour-neighbour.result = ap (λ (u : UpLine). u.neighbour) c.raised.ensures in
    let bound = c.neighbour-neighbour.ensures.bound in
    place_new p.count p.root (map shown p.slots) c.slot-slot.result new (omega (arith, same, bound.0)) (omega (arith, same, c.if-neighbour-self.false))
    (λ e. c.if-neighbour-self-2.false (sym same ∙ e)) (ap (λ (n : ℕ). served n (map shown p.slots)) same ∙ sym c.if-serves.ensures)
