use Rattle.std.proofs.Common.{ℕ, ◌+◌, ◌<◌, List, length, is_some, sym, ap, ◌∙◌, subst₂, arith, length-set}
use mathlib.Core.Path.{subst⁻¹}
use Rattle.spf_tree.specs.Queues.{Queued}
use Rattle.spf_tree.proofs.Beginning.{up_to, begin_skip, begin_take, begin_room, begin_all}
use Rattle.spf_tree.proofs.Mirror.{MirrorsTo, mirror_more, mirror_none}
use Rattle.spf_tree.proofs.search.Search.begin.Goals as goal
use Rattle.spf_tree.proofs.search.Search.begin.Goals.{in-Some, in_default}

pub bounds-nodes-reached : goal.bounds-nodes-reached
bounds-nodes-reached c = begin_room c.args.routes c.loop-place.nodes c.loop-place.place c.loop-place.reached c.loop-place-test.true c.loop-place.invariant.queued

pub overflow_add-reached : goal.overflow_add-reached
overflow_add-reached c =
    let h : c.loop-place.reached < 64 = begin_room c.args.routes c.loop-place.nodes c.loop-place.place c.loop-place.reached c.loop-place-test.true c.loop-place.invariant.queued in
    omega arith

pub loop-place-preserved : goal.loop-place-preserved
loop-place-preserved c =
    let R = c.args.routes in
    let l = c.loop-place in
    elim c.match-route.branch [
      | in-Some w ↦ record {
        wide = ap length w.costs-is ∙ length-set l.costs l.place _ ∙ l.invariant.wide;
        long = ap length w.nodes-is ∙ length-set l.nodes l.reached _ ∙ l.invariant.long;
        queued = subst₂ (λ (x : List ℕ) (y : ℕ). Queued (up_to R (l.place + 1)) x y) (sym w.nodes-is) (sym w.reached-is)
            (begin_take R l.nodes l.place l.reached c.loop-place-test.true l.invariant.long (ap is_some w.in-Some.is) l.invariant.queued);
        mirrored = subst⁻¹ (λ (x : List ℕ). MirrorsTo R x (l.place + 1)) w.costs-is (mirror_more R l.costs l.place w.in-Some.cost (omega (arith, l.invariant.wide, c.loop-place-test.true)) w.in-Some.is l.invariant.mirrored);
      }
      | in_default w ↦ record {
        wide = ap length w.costs-is ∙ l.invariant.wide;
        long = ap length w.nodes-is ∙ l.invariant.long;
        queued = subst₂ (λ (x : List ℕ) (y : ℕ). Queued (up_to R (l.place + 1)) x y) (sym w.nodes-is) (sym w.reached-is) (begin_skip R l.nodes l.place l.reached (ap is_some w.in_default.is) l.invariant.queued);
        mirrored = subst⁻¹ (λ (x : List ℕ). MirrorsTo R x (l.place + 1)) w.costs-is (mirror_none R l.costs l.place w.in_default.is l.invariant.mirrored);
      }
    ]

pub invariant_of-result : goal.invariant_of-result
invariant_of-result c =
    let l = c.loop-place in
    record {
      queued = begin_all c.args.routes l.nodes l.place l.reached c.loop-place-test.false l.invariant.queued;
      mirrored = λ v b low high e. l.invariant.mirrored v b low (omega (arith, high, c.loop-place-test.false)) e;
    }
