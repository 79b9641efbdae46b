use Rattle.std.proofs.Common.{◌≡◌, ℕ, ◌-◌, ◌≤◌, ◌&&◌, leb, List, length, set, replicate, Some, None, sym, ap, ◌∙◌, arith, rules}
use mathlib.Core.Path.{subst⁻¹}
use Rattle.std.proofs.lemmas.Bool.{cond-true, and_from, le-leb}
use Rattle.spf.specs.Model.{map_of}
use Rattle.spf.specs.Reckoning.{no_route, route_at, tree_of}
use Rattle.spf.specs.declared.route.Route.{Route}
use Rattle.spf_laws.specs.Searches.{Partial}
use Rattle.spf_laws.proofs.Right.{tree_is}
use Rattle.spf_tree.specs.Queues.{alone}
use Rattle.spf_tree.proofs.Root.{root_partial}
use Rattle.spf_tree.proofs.tree.shortest_paths.Goals as goal

pub search-requires : goal.search-requires
search-requires g c =
    let k = g.M.Metric.means c.args.metric.now in
    let m = map_of c.args.map.now in
    let low : 1 ≤ c.args.root = c.if-root-lt1.false in
    let high : c.args.root ≤ c.args.map.now.count = omega (arith, c.if-root-count.false, c.count.ensures.value) in
    record {
      rooted = (low, high);
      partial = subst⁻¹ (λ (xs : List Route). Partial k m c.args.root (route_at xs))
          (c.root_alone.ensures ∙ ap (λ (x : ℕ). set (replicate 64 no_route) (c.args.root - 1) (alone x)) c.empty.ensures)
          (root_partial k c.laws.ensures m c.sound.ensures c.args.root (low, high));
    }

pub returns : goal.returns
returns g c =
    let k = g.M.Metric.means c.args.metric.now in
    let m = map_of c.args.map.now in
    let low : 1 ≤ c.args.root = c.if-root-lt1.false in
    let high : c.args.root ≤ c.args.map.now.count = omega (arith, c.if-root-count.false, c.count.ensures.value) in
    let long : length c.search.result ≡ 64 = search rules in
    record {
      value = ap (λ (xs : List Route). Some xs) (tree_is k c.laws.ensures m c.sound.ensures c.args.root (low, high) c.search.result long (λ v _ _. c.search.ensures v))
          ∙ sym (cond-true (leb 1 c.args.root && leb c.args.root m.count) (Some (tree_of k m c.args.root)) None
          (and_from (leb 1 c.args.root) (leb c.args.root m.count) (le-leb 1 c.args.root low) (le-leb c.args.root m.count high)));
      right = c.search.ensures;
    }
