use Rattle.std.proofs.Common.{◌≡◌, ap, ◌∙◌, rules}
use Rattle.rows.specs.Rows.{allowed}
use Rattle.spf.specs.Reading.{lines_from}
use Rattle.spf.proofs.Held.{lines_allowed_from, lines_past}
use Rattle.spf.proofs.map.Map.lines_from.Goals as goal

pub returns-clause-law : goal.returns-clause-law
returns-clause-law c =
    let m = c.args.self.now in
    let node = c.args.node in
    let all : c.lines.result.now ≡ lines_from m.rows node = search rules in
    λ n. ap (allowed m.count node 0) all ∙ lines_allowed_from m.count m.rows m.allowed node n.0 n.1

pub returns-clause-none : goal.returns-clause-none
returns-clause-none c =
    let m = c.args.self.now in
    let node = c.args.node in
    let all : c.lines.result.now ≡ lines_from m.rows node = search rules in
    λ past. all ∙ lines_past m.count m.rows m.allowed node past
