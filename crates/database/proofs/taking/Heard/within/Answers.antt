use Rattle.std.proofs.Common.{◌≡◌, ◌<◌, Some, sym, ap, ◌∙◌, arith, rules, tests}
use Rattle.std.proofs.lemmas.Iterator.Search.{position_from_yields_List}
use Rattle.std.proofs.lemmas.List.Quantifiers.{position-Some}
use Rattle.std.specs.List.{position}
use Rattle.rows.specs.Rows.{no_line}
use Rattle.wire.specs.Reports.{content}
use Rattle.database.proofs.Asked.{beyond, decided, answered}
use Rattle.database.proofs.Coming.{all_come}
use Rattle.database.proofs.Heard.{few_lines}
use Rattle.database.proofs.taking.Heard.within.Goals as goal

-- the first line beyond the count
found : (c : goal.In-Some) → Some c.in-Some.line ≡ position (beyond c.args.count) (content c.args.self.now.report).lines
found c = sym c.in-Some.is ∙ position_from_yields_List (beyond c.args.count) _ _ c.position.result c.position.ensures.ran (all_come c.lines.result (content c.args.self.now.report).lines c.lines.ensures) (λ x b q k. search (rules, tests))

few : (c : goal.In-Some) → c.in-Some.line < 8
few c = omega (arith, (position-Some (beyond c.args.count) (content c.args.self.now.report).lines c.in-Some.line no_line (sym (found c))).0, few_lines (content c.args.self.now.report) c.args.self.now.allowed)

pub overflow_mul-result : goal.overflow_mul-result
overflow_mul-result c = let h = few c in search rules

pub overflow_add-result : goal.overflow_add-result
overflow_add-result c = let h = few c in search rules

pub returns-in-Some : goal.returns-in-Some
returns-in-Some c = answered c.args.count (content c.args.self.now.report) (Some c.in-Some.line) (search rules) (found c)

pub returns-in-None : goal.returns-in-None
returns-in-None c =
    let none = position_from_yields_List (beyond c.args.count) _ _ c.position.result c.position.ensures.ran (all_come c.lines.result (content c.args.self.now.report).lines c.lines.ensures) (λ x b q k. search (rules, tests)) in
    ap decided (sym c.in-None.is) ∙ answered c.args.count (content c.args.self.now.report) c.position.result (search rules) none
