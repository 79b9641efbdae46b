use Rattle.std.proofs.Common.{◌≡◌, ℕ, ◌+◌, ◌-◌, ◌≤◌, min, set, sym, ap, ◌∙◌, subst, suc, take, arith}
use Rattle.forwarding.specs.declared.walk.End.TheVariants.{Arrived, Lost}
use Rattle.forwarding.specs.Courses.{ends_at, walk_from}
use Rattle.forwarding.proofs.Arrival.{Walked, held}
use Rattle.forwarding.proofs.Courses.{Along, course, begun, hopped, arrived, looped, lost}
use Rattle.forwarding.proofs.hops.forward.Goals as goal
use Rattle.forwarding.proofs.hops.forward.Goals.{then-at-to-2, else-at-to-2}

pub loop-made-init : goal.loop-made-init
loop-made-init g c = begun (g.N.NextHops.shows c.args.network.now) c.args.to c.min-limit.result c.args.from

pub loop-made-preserved : goal.loop-made-preserved
loop-made-preserved g c =
    let small : c.min-limit.result ≤ 64 = omega (arith, c.min-limit.ensures) in
    let on = hopped small c.loop-made.invariant c.next_hop-hop.result c.if-at-to.false c.loop-made-test.true (sym c.next_hop-hop.ensures) (omega (arith, c.if-hop-eq0.false)) in
    subst (λ (i : ℕ). Along (g.N.NextHops.shows c.args.network.now) c.args.to c.min-limit.result c.args.from (set c.loop-made.nodes (i + 1) c.next_hop-hop.result) (c.loop-made.made + 1) c.next_hop-hop.result) (sym c.from.ensures) on

pub returns-then-at-to : goal.returns-then-at-to
returns-then-at-to g c =
    let shows = g.N.NextHops.shows c.args.network.now in
    let limit = c.min-limit.result in
    let all = held shows (g.N.NextHops.nodes c.args.network.now) c.args.from c.args.to limit (c.min-limit.ensures ∙ ap (λ (n : ℕ). min n 64) c.count.ensures) c.loop-made.invariant Arrived
    (arrived (λ x. (shows x c.args.to).hop) c.args.to (limit - c.loop-made.made) c.loop-made.at c.if-at-to.true) in
    record { value = all.value; going = all.going; arrives = all.arrives; absent = all.absent }

pub returns-then-hop-eq0 : goal.returns-then-hop-eq0
returns-then-hop-eq0 g c =
    let shows = g.N.NextHops.shows c.args.network.now in
    let limit = c.min-limit.result in
    let all = held shows (g.N.NextHops.nodes c.args.network.now) c.args.from c.args.to limit (c.min-limit.ensures ∙ ap (λ (n : ℕ). min n 64) c.count.ensures) c.loop-made.invariant Lost
    (lost (λ x. (shows x c.args.to).hop) c.args.to (limit - c.loop-made.made) c.loop-made.at c.if-at-to.false (omega (arith, c.loop-made-test.true)) (sym c.next_hop-hop.ensures ∙ c.if-hop-eq0.true)) in
    record { value = all.value; going = all.going; arrives = all.arrives; absent = all.absent }

pub returns : goal.returns
returns g c =
    let shows = g.N.NextHops.shows c.args.network.now in
    let to = c.args.to in
    let limit = c.min-limit.result in
    let l = c.loop-made in
    let hop : ℕ → ℕ = λ x. (shows x to).hop in
    let last : l.made ≡ limit = omega (arith, l.invariant.few, c.loop-made-test.false) in
    let ends : walk_from hop to (limit - l.made) l.at ≡ ends_at l.at c.if-at-to-2.end =
    elim c.if-at-to-2.branch [
      | then-at-to-2 w ↦ arrived hop to (limit - l.made) l.at w.if-at-to-2.true ∙ ap (ends_at l.at) (sym w.end-is)
      | else-at-to-2 w ↦ looped hop to (limit - l.made) l.at w.if-at-to-2.false (omega (arith, last)) ∙ ap (ends_at l.at) (sym w.end-is)
    ] in
    let all = subst (λ (n : ℕ). Walked shows (g.N.NextHops.nodes c.args.network.now) c.args.from to (course (take (suc n) l.nodes) c.if-at-to-2.end)) last
    (held shows (g.N.NextHops.nodes c.args.network.now) c.args.from to limit (c.min-limit.ensures ∙ ap (λ (n : ℕ). min n 64) c.count.ensures) l.invariant c.if-at-to-2.end ends) in
    record { value = all.value; going = all.going; arrives = all.arrives; absent = all.absent }
