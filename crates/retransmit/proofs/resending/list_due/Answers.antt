use Rattle.std.proofs.Common.{◌≡◌, ◌+◌, ◌<◌, ◌≤◌, ◌++◌, length, drop, refl, sym, ap, ◌∙◌, arith, rules, tests}
use Rattle.std.proofs.lemmas.List.{length_push}
use Rattle.std.proofs.lemmas.Iterator.{YieldsList-from_range}
use Rattle.std.proofs.lemmas.Iterator.Consumers.{YieldsList-from_filter, YieldsList-at, YieldsList-turn, YieldsList-end}
use Rattle.database.specs.States.{state}
use Rattle.retransmit.specs.Resending.{due_by, due_in}
use Rattle.retransmit.proofs.Listing.{listed_more, all_listed, due_few}
use Rattle.retransmit.proofs.resending.list_due.Goals as goal

-- there is room for one more that is due
room : (c : goal.In-Some) → length c.loop-origin.yielded < length c.args.list.now
room c =
    let turn = YieldsList-turn
    (YieldsList-at c.into_iter-origin-iterator.ensures.into_iter_gives
    (YieldsList-from_filter _ (due_by (state c.args.database.now) c.args.timers.now) (YieldsList-at c.filter-due.ensures.source (YieldsList-from_range 1 65 64 refl refl)) c.filter-due.ensures.closure (λ x b q k. search (rules, tests))))
    c.loop-origin.yielded _ c.loop-origin.yielded_by _ _ c.in-Some.origin c.in-Some.is c.next.ensures.steps in
    omega (arith, due_few (state c.args.database.now) c.args.timers.now)

pub bounds-list-listed : goal.bounds-list-listed
bounds-list-listed c = omega (arith, room c, c.loop-origin.auto.list)

pub loop-origin-preserved : goal.loop-origin-preserved
loop-origin-preserved c = (
  search rules,
  search rules,
  listed_more c.args.list.now c.loop-origin.list c.loop-origin.yielded c.loop-origin.listed c.in-Some.origin c.loop-origin.invariant.2 c.loop-origin.invariant.3 (room c),
  ap (λ n. n + 1) c.loop-origin.invariant.3 ∙ sym (length_push c.loop-origin.yielded c.in-Some.origin),
)

-- all that are due are listed
all : (c : goal.In-None) → (c.loop-origin.listed ≡ length (due_in (state c.args.database.now) c.args.timers.now)) × (c.loop-origin.list ≡ due_in (state c.args.database.now) c.args.timers.now ++ drop c.loop-origin.listed c.args.list.now) × (c.loop-origin.listed ≤ (state c.args.database.now).count)
all c =
    let end = YieldsList-end
    (YieldsList-at c.into_iter-origin-iterator.ensures.into_iter_gives
    (YieldsList-from_filter _ (due_by (state c.args.database.now) c.args.timers.now) (YieldsList-at c.filter-due.ensures.source (YieldsList-from_range 1 65 64 refl refl)) c.filter-due.ensures.closure (λ x b q k. search (rules, tests))))
    c.loop-origin.yielded _ c.loop-origin.yielded_by _ _ c.in-None.is c.next.ensures.steps in
    all_listed (state c.args.database.now) c.args.timers.now c.args.list.now c.loop-origin.list c.loop-origin.yielded c.loop-origin.listed end.0 c.loop-origin.invariant.2 c.loop-origin.invariant.3

pub overflow_cast-result : goal.overflow_cast-result
overflow_cast-result c = omega (arith, (all c).2, c.args.database.now.range)

pub returns : goal.returns
returns c = let e = all c in record { answer = e.0; listed = e.1 }
