-- A new period begins on every slot; no neighbour changes.
use Rattle.std.proofs.Common.{map, length, sym, ap, ◌∙◌, subst}
use Rattle.std.proofs.lemmas.List.{length-map}
use Rattle.slots.specs.Lines.{begun}
use Rattle.slots.specs.Slots.{shown}
use Rattle.ports.specs.Places.{Within, Apart}
use Rattle.ports.proofs.Placing.{begun_within, begun_apart}
use Rattle.ports.proofs.ports.Ports.close.Goals as goal

pub invariant_of-self : goal.invariant_of-self
invariant_of-self c =
    let p = c.args.self.now in
    let slots = map shown p.slots in
    let begun' = c.all_begun-self.result in
    let e = c.all_begun-self.ensures in
    let report = c.is_due-due.result in
    record {
      eight = sym (length-map begun' shown) ∙ ap length e ∙ length-map slots (begun report) ∙ length-map p.slots shown ∙ p.eight;
      within = subst (Within p.count p.root) (sym e) (begun_within report slots p.count p.root p.within);
      apart = subst Apart (sym e) (begun_apart report slots p.apart);
    }
