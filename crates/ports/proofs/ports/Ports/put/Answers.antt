-- The new slot goes with the others.
use Rattle.std.proofs.Common.{◌-◌, ◌<◌, map, length, sym, ◌∙◌, subst, arith}
use Rattle.std.proofs.lemmas.List.{map-set, length-set, length-map}
use Rattle.slots.specs.Slots.{shown}
use Rattle.ports.specs.Places.{Within, Apart, Placeable}
use Rattle.ports.proofs.Placing.{put_within, put_apart}
use Rattle.ports.proofs.ports.Ports.put.Goals as goal

pub invariant_of-self : goal.invariant_of-self
invariant_of-self c =
    let p = c.args.self.now in
    let slots = map shown p.slots in
    let s = shown c.args.slot in
    let n = c.from.result in
    let m = map-set shown p.slots (n - 1) c.args.slot in
    let inside : n - 1 < length slots = omega (arith, length-map p.slots shown, p.eight) in
    let fits = subst (λ k. Placeable p.count p.root slots k s) (sym c.from.ensures) c.requires.fits in
    record {
      eight = length-set p.slots (n - 1) c.args.slot ∙ p.eight;
      within = subst (Within p.count p.root) (sym m) (put_within p.count p.root slots n s inside fits p.within);
      apart = subst Apart (sym m) (put_apart p.count p.root slots n s inside fits p.apart);
    }

pub returns : goal.returns
returns c = let same = c.from.ensures in simp (map-set, same)
