-- Node by node, the row has the lines so far; at the end, all of them.
use Rattle.std.proofs.Common.{◌≡◌, ℕ, ◌+◌, Some, Option, option_map, rules, sym, ap, ◌∙◌, subst, arith}
use Rattle.timing.specs.Ranges.{units_of}
use Rattle.timing.specs.declared.quantity.Quantity.{Quantity}
use Rattle.ports.proofs.Owning.{Begun, done, without, room, with_line}
use Rattle.ports.proofs.ports.Ports.own_row.Goals as goal
use Rattle.ports.proofs.ports.Ports.own_row.Goals.{in-Some, in_default}

-- the figure that is written down is the one that was found
found : {least most : ℕ} (o : Option (Quantity least most)) (q : Quantity least most) (n : ℕ) (f : Option ℕ) → option_map units_of o ≡ f → o ≡ Some q → n ≡ units_of q → f ≡ Some n
found o q n f e is value = sym e ∙ ap (option_map units_of) is ∙ ap Some (sym value)

pub unwrap-requires : goal.unwrap-requires
unwrap-requires c =
    let h = room c.args.self.now c.loop-neighbour.neighbour c.loop-neighbour.row c.loop-neighbour.invariant (omega arith) (units_of c.in-Some.figure) (sym c.in-Some.ensures) in
    let free = c.push.ensures.room ∙ h in search rules

pub loop-neighbour-preserved : goal.loop-neighbour-preserved
loop-neighbour-preserved c =
    let p = c.args.self.now in
    let n = c.loop-neighbour.neighbour in
    let row = c.loop-neighbour.row in
    elim c.match-figure_to.branch [
      | in-Some w ↦
          with_line p n row c.loop-neighbour.invariant (omega arith) w.units-figure.result c.match-figure_to.row
          (found _ w.in-Some.figure _ _ c.figure_to.ensures w.in-Some.is w.units-figure.ensures.value) (w.row-is ∙ w.push.ensures.row)
      | in_default w ↦
          subst (Begun p (n + 1)) (sym w.row-is) (without p n row c.loop-neighbour.invariant (omega arith) (sym c.figure_to.ensures ∙ ap (option_map units_of) w.in_default.is))
    ]

pub returns : goal.returns
returns c = done c.args.self.now c.loop-neighbour.neighbour c.loop-neighbour.row c.loop-neighbour.invariant (omega arith)

pub returns-after-figure_to : goal.returns-after-figure_to
returns-after-figure_to c =
    let p = c.args.self.now in
    let n = c.loop-neighbour.neighbour in
    let row = c.loop-neighbour.row in
    done p (n + 1) c.match-figure_to.row
    (elim c.match-figure_to.branch [
      | in-Some w ↦
          with_line p n row c.loop-neighbour.invariant (omega arith) w.units-figure.result c.match-figure_to.row
          (found _ w.in-Some.figure _ _ c.figure_to.ensures w.in-Some.is w.units-figure.ensures.value) (w.row-is ∙ w.push.ensures.row)
      | in_default w ↦
          subst (Begun p (n + 1)) (sym w.row-is) (without p n row c.loop-neighbour.invariant (omega arith) (sym c.figure_to.ensures ∙ ap (option_map units_of) w.in_default.is))
    ]) (omega arith)
