use Rattle.std.proofs.Common.{◌≤◌, sym, ap, ◌∙◌}
use mathlib.Core.Path.{subst⁻¹}
use Rattle.std.specs.List.{AllByRecursion}
use Rattle.wire.specs.declared.lines.Line.{Line}
use Rattle.spf.specs.Reading.{shown_figure}
use Rattle.spf.proofs.Figures.{found_figure}
use Rattle.spf.proofs.Held.{figured_from}
use Rattle.spf.proofs.map.Map.figure.Goals as goal

pub returns : goal.returns
returns c =
    let m = c.args.self.now in
    let some = subst⁻¹ (AllByRecursion (λ (x : Line). 1 ≤ x.figure)) c.lines_from.ensures.value (figured_from m.count m.rows m.allowed c.args.from) in
    c.figure_to.ensures ∙ found_figure c.args.to c.lines_from.result.now some ∙ ap shown_figure (sym (c.lines_from.ensures.figures c.args.to))
