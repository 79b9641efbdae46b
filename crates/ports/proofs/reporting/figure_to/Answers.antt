-- The first slot that is up to the node decides.
use Rattle.std.proofs.Common.{None, rules}
use Rattle.std.specs.Slice.Iter.{iter_rest}
use Rattle.timing.specs.Ranges.{units_of}
use Rattle.slots.specs.Slots.{shown, figure_for}
use Rattle.ports.proofs.Firsts.{find_map_is}
use Rattle.ports.proofs.reporting.figure_to.Goals as goal

pub returns : goal.returns
returns c =
    find_map_is _ (λ s. s.now) shown units_of (figure_for c.args.node) (λ x o q k. search rules)
    None iter_rest c.args.slots.now c.find_map.result c.iter.ensures.rest c.iter.ensures.runs c.find_map.ensures.runs
