use Rattle.std.proofs.Common.{◌≡◌, length, rules}
use mathlib.Core.Path.{subst⁻¹}
use Rattle.spf.specs.Maps.{Node}
use Rattle.spf.specs.Model.{map_of}
use Rattle.spf_tree.proofs.Turn.{held_first, costs, node_at, finished, held_next, fewer}
use Rattle.spf_tree.proofs.tree.search.Goals as goal

pub loop-place-init : goal.loop-place-init
loop-place-init g c =
    let long : length c.args.table ≡ 64 = search rules in
    held_first (g.M.Metric.means c.args.metric.now) (map_of c.args.map.now) c.args.root c.begin-search.result c.args.table c.begin-search.ensures.routes c.begin-search.ensures.settled long c.requires.partial

pub nearest-requires : goal.nearest-requires
nearest-requires g c = costs (g.M.Metric.means c.args.metric.now) c.laws.ensures (map_of c.args.map.now) c.sound.ensures c.args.root c.requires.rooted c.loop-place.search c.loop-place.invariant

pub loop-place-smaller : goal.loop-place-smaller
loop-place-smaller g c =
    let k = g.M.Metric.means c.args.metric.now in
    let m = map_of c.args.map.now in
    let s = c.loop-place.search in
    let near = c.in-Some.ensures in
    fewer k c.laws.ensures m c.sound.ensures c.args.root c.requires.rooted s c.loop-place.invariant c.in-Some.place c.settle-node.result c.in-Some.cost near.high c.settle-node.ensures.node near
    c.settle-node.new.self c.settle-node.ensures.nodes c.settle-node.ensures.settled c.settle-node.ensures.reached c.settle-node.ensures.routes
    c.relax.new.self c.relax.ensures

pub loop-place-preserved : goal.loop-place-preserved
loop-place-preserved g c =
    let k = g.M.Metric.means c.args.metric.now in
    let m = map_of c.args.map.now in
    let s = c.loop-place.search in
    let near = c.in-Some.ensures in
    held_next k c.laws.ensures m c.sound.ensures c.args.root c.requires.rooted s c.loop-place.invariant c.in-Some.place c.settle-node.result c.in-Some.cost near.high c.settle-node.ensures.node near
    c.settle-node.new.self c.settle-node.ensures.nodes c.settle-node.ensures.settled c.settle-node.ensures.reached c.settle-node.ensures.routes
    c.relax.new.self c.relax.ensures

pub returns : goal.returns
returns g c =
    finished (g.M.Metric.means c.args.metric.now) c.laws.ensures (map_of c.args.map.now) c.sound.ensures c.args.root c.requires.rooted c.loop-place.search c.loop-place.invariant c.in_default.ensures

pub relax-requires : goal.relax-requires
relax-requires g c =
    let m = map_of c.args.map.now in
    subst⁻¹ (Node m) c.settle-node.ensures.node
    (node_at (g.M.Metric.means c.args.metric.now) c.laws.ensures m c.sound.ensures c.args.root c.requires.rooted c.loop-place.search c.loop-place.invariant c.in-Some.place c.in-Some.ensures.high)
