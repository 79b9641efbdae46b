-- Each place says whether its slot is up.
use Rattle.std.proofs.Common.{rules, ◌∙◌, sym}
use Rattle.std.proofs.lemmas.List.{map-id}
use Rattle.slots.specs.Slots.{shown, is_up}
use Rattle.ports.proofs.Mapped.{map_is}
use Rattle.ports.proofs.ports.Ports.up_slots.Goals as goal

pub returns : goal.returns
returns c =
    let slots = c.args.self.now in
    sym (map-id c.map.result) ∙ map_is _ shown (λ b. b) is_up (λ x y q k. search rules) slots.slots c.map.result 8 c.map.ensures.items slots.eight
