use Rattle.std.proofs.Common.{◌≡◌, ℕ, ◌-◌, ◌<◌, ◌≤◌, length, set, not, sym, ap, ◌∙◌, subst, arith, rules}
use Rattle.spf_tree.specs.Queues.{Mirrors}
use Rattle.spf_tree.proofs.Mirror.{mirror_set}
use Rattle.spf_tree.proofs.Offers.{offer_room, offer_new, route_set, route_other}
use Rattle.spf_tree.proofs.search.Search.offer.Goals as goal

pub bounds-self-self : goal.bounds-self-self
bounds-self-self g c =
    let s = c.args.self.now in
    offer_room s.routes c.from-place.result c.args.line.neighbour c.from-place.ensures c.requires.low c.requires.high s.nodes s.reached s.queued (c.is_none-first.ensures ∙ ap not c.if-first.true)

pub overflow_add-self : goal.overflow_add-self
overflow_add-self g c =
    let s = c.args.self.now in
    let h : s.reached < 64 = offer_room s.routes c.from-place.result c.args.line.neighbour c.from-place.ensures c.requires.low c.requires.high s.nodes s.reached s.queued (c.is_none-first.ensures ∙ ap not c.if-first.true) in
    omega arith

pub invariant_of-self : goal.invariant_of-self
invariant_of-self g c =
    let s = c.args.self.now in
    let x = c.args.line in
    let n = c.from-place.result in
    let new = c.offer.new.route in
    let wide : length s.routes ≡ 64 = search rules in
    let long : length s.nodes ≡ 64 = search rules in
    let deep : length s.costs ≡ 64 = search rules in
    let low : 1 ≤ n = omega (arith, c.requires.low, c.from-place.ensures) in
    let high : n ≤ 64 = omega (arith, c.requires.high, c.from-place.ensures) in
    record {
      queued = offer_new (g.M.Metric.means c.args.metric.now) c.args.settled.node c.args.settled.cost x s.routes c.requires.low (omega (arith, c.requires.high)) n c.from-place.ensures
          new c.offer.ensures s.nodes s.reached c.requires.high s.queued (c.is_none-first.ensures ∙ ap not c.if-first.true) long;
      mirrored = subst (λ (cost : ℕ). Mirrors (set s.routes (n - 1) new) (set s.costs (n - 1) cost)) (sym c.unwrap_or.ensures)
          (mirror_set s.routes (set s.routes (n - 1) new) s.costs n new low (omega arith) (route_set s.routes n new low (omega arith)) (λ v o. route_other s.routes n v new low o) s.mirrored);
    }
