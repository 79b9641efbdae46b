use Rattle.std.proofs.Common.{refl}
use Rattle.spf.specs.Model.{map_of}
use Rattle.spf_tree.proofs.Lines.{line_low, line_high, offered_all_lem, offered_lines}
use Rattle.spf_tree.proofs.search.Search.relax.Goals as goal

pub offer-requires-clause-low : goal.offer-requires-clause-low
offer-requires-clause-low g c = line_low c.args.map.now.count c.args.settled.node c.lines_from-line-items.result.now c.loop-line.line-index _ (c.lines_from-line-items.ensures.law c.requires) c.loop-line-test.true refl

pub offer-requires-clause-high : goal.offer-requires-clause-high
offer-requires-clause-high g c = line_high c.args.map.now.count c.args.settled.node c.lines_from-line-items.result.now c.loop-line.line-index _ c.args.map.now.few (c.lines_from-line-items.ensures.law c.requires) c.loop-line-test.true refl

pub returns : goal.returns
returns g c =
    let k = g.M.Metric.means c.args.metric.now in
    let settled = c.args.settled in
    let lines = c.lines_from-line-items in
    offered_lines k settled.node settled.cost (map_of c.args.map.now) lines.result.now c.args.self.now c.loop-line.self lines.ensures.figures (lines.ensures.law c.requires)
    (offered_all_lem k settled.node settled.cost lines.result.now c.loop-line.line-index c.args.self.now c.loop-line.self c.loop-line-test.false c.loop-line.invariant)
