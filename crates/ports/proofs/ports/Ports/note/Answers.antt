-- The slot keeps its neighbour.
use Rattle.std.proofs.Common.{map, sym}
use Rattle.slots.specs.Slots.{shown, line_of}
use Rattle.timing.specs.Ranges.{units_of}
use Rattle.ports.proofs.Placing.{place_kept}
use Rattle.ports.proofs.Noting.{stands, noted_neighbour}
use Rattle.ports.proofs.ports.Ports.note.Goals as goal

pub put-requires : goal.put-requires
put-requires c =
    let p = c.args.self.now in
    let slots = map shown p.slots in
    let old = line_of c.in_ok-port.port in
    let new = line_of c.in_ok-noted.noted in
    let at = stands slots c.args.slot old (sym c.in_ok-port.ensures) in
    let same = noted_neighbour old new (units_of c.in_ok-delay.delay) (sym c.in_ok-noted.ensures) in
    record { slot = (at.low, at.high); fits = place_kept p.count p.root slots c.args.slot old new p.within p.apart at.there same }
