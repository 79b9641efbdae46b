use Rattle.std.proofs.Common.{◌≡◌, ◌-◌, ◌≤◌, length, set, is_some, refl, ap, arith, rules}
use Rattle.spf_tree.specs.Queues.{reached_by}
use Rattle.spf_tree.proofs.Queue.{queue_same, queue_swap}
use Rattle.spf_tree.proofs.Mirror.{mirror_same}
use Rattle.spf_tree.proofs.Offers.{distance_still}
use Rattle.spf_tree.proofs.search.Search.settle.Goals as goal

pub invariant_of-self : goal.invariant_of-self
invariant_of-self c =
    let s = c.args.self.now in
    let p = c.swap.ensures.by_index in
    let n = c.from-at.result in
    let long : length s.routes ≡ 64 = search rules in
    let low : 1 ≤ n = omega (arith, s.queued.low c.args.place c.requires.there, c.from-at.ensures) in
    let high : n ≤ length s.routes = omega (arith, s.queued.high c.args.place c.requires.there, c.from-at.ensures) in
    record {
      queued = queue_same (reached_by s.routes) (reached_by (set s.routes (n - 1) _)) c.swap.new.self s.reached
          (λ v _ _. ap is_some (distance_still s.routes n v _ low high refl))
          (queue_swap s.nodes c.swap.new.self s.settled c.args.place (p.0 0, p.1 0, λ i a b. p.2 i 0 a b) (reached_by s.routes) s.reached
          (omega (arith, c.requires.waits, c.requires.there)) c.requires.there s.queued);
      mirrored = mirror_same s.routes (set s.routes (n - 1) _) s.costs (λ v. distance_still s.routes n v _ low high refl) s.mirrored;
    }
