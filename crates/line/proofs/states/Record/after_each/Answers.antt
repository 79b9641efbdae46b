use Rattle.std.proofs.Common.{rules, ◌≡◌, List, true, refl, ◌∙◌}
use Rattle.std.proofs.lemmas.Fn.{fold_same}
use Rattle.std.proofs.iter.runs.Made.{run, to_end}
use Rattle.line.specs.Moves.{shown, after_message, after_messages}
use Rattle.line.specs.declared.messages.Message.{Message}
use Rattle.line.specs.declared.states.Record.{Record}
use Rattle.line.proofs.Passing.{passed, more}
use Rattle.line.proofs.states.Record.after_each.Goals as goal

pub returns : goal.returns
returns g c =
    let from = c.args.self in
    let ran = c.fold.ensures.ran in
    let done : shown c.fold.result ≡ after_messages (shown from) ran.0 =
    fold_same _ (λ (ms : List Message) (r : Record). shown r ≡ after_messages (shown from) ms) _
    (λ ms r m r' f' e k. let step : shown r' ≡ after_message (shown r) m = search rules in (step ∙ more from ms m r e, search rules))
    ran.0 from c.fold.result _ refl ran.3 in
    let steps = g.I.Iterator.next_gives in
    (run steps c.args.messages ran.0 true (to_end steps c.args.messages ran.0 ran.2), refl, refl, passed from ran.0 c.fold.result done)
