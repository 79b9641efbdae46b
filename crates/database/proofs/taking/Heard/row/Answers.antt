use Rattle.std.proofs.Common.{◌≡◌, ◌<◌, true, length, map-id, sym, ap, ◌∙◌, arith, rules}
use Rattle.std.proofs.lemmas.Iterator.Consumers.{YieldsList-at, YieldsList-turn, YieldsList-end}
use Rattle.wire.specs.Reports.{content}
use Rattle.std.specs.Result.{is_ok}
use Rattle.rows.specs.Pushing.{pushed}
use Rattle.database.specs.Taking.{row_with}
use Rattle.database.proofs.Coming.{all_come}
use Rattle.database.proofs.Filled.{room, one_pushed}
use Rattle.database.proofs.Heard.{few_lines}
use Rattle.database.proofs.taking.Heard.row.Goals as goal

pub unwrap-requires : goal.unwrap-requires
unwrap-requires c =
    let turn = YieldsList-turn (YieldsList-at c.into_iter-line-iterator.ensures.into_iter_gives (all_come c.lines-line-items.result (content c.args.self.now.report).lines c.lines-line-items.ensures)) c.loop-line.yielded _ c.loop-line.yielded_by _ _ c.in-Some.line c.in-Some.is c.next.ensures.steps in
    let few : length c.loop-line.yielded < 8 = omega (arith, few_lines (content c.args.self.now.report) c.args.self.now.allowed) in
    let ok : is_ok c.push.result ≡ true = c.push.ensures.room ∙ room c.loop-line.row c.loop-line.yielded c.loop-line.invariant.2 few in
    search rules

pub loop-line-preserved : goal.loop-line-preserved
loop-line-preserved c =
    let turn = YieldsList-turn (YieldsList-at c.into_iter-line-iterator.ensures.into_iter_gives (all_come c.lines-line-items.result (content c.args.self.now.report).lines c.lines-line-items.ensures)) c.loop-line.yielded _ c.loop-line.yielded_by _ _ c.in-Some.line c.in-Some.is c.next.ensures.steps in
    let few : length c.loop-line.yielded < 8 = omega (arith, few_lines (content c.args.self.now.report) c.args.self.now.allowed) in
    (tt, tt, c.push.ensures.row ∙ ap (λ r. pushed r c.in-Some.line) c.loop-line.invariant.2 ∙ one_pushed c.loop-line.yielded c.in-Some.line few)

pub returns : goal.returns
returns c =
    let all = YieldsList-end (YieldsList-at c.into_iter-line-iterator.ensures.into_iter_gives (all_come c.lines-line-items.result (content c.args.self.now.report).lines c.lines-line-items.ensures)) c.loop-line.yielded _ c.loop-line.yielded_by _ _ c.in-None.is c.next.ensures.steps in
    c.loop-line.invariant.2 ∙ ap row_with (sym (map-id c.loop-line.yielded) ∙ all.0)
