use Rattle.std.proofs.Common.{ap, subst}
use Rattle.std.proofs.iter.Yields.{listed}
use Rattle.std.proofs.iter.runs.Sources.{from_front}
use Rattle.std.specs.Iterator.{AlwaysYields}
use Rattle.script.specs.declared.line.Words.{Words}
use Rattle.script.specs.Words.{words_in}
use Rattle.script.specs.Stepping.{words_left, word_steps}
use Rattle.script.proofs.Fixing.{word_laws, words_of_line}
use Rattle.script.proofs.line.Words.new.Goals as goal

pub returns-clause-gives : goal.returns-clause-gives
returns-clause-gives c =
    let made : Words = record { rest = c.without_return.result } in
    subst (λ ws. AlwaysYields word_steps (λ w. w.now) made ws) (ap words_in c.without_return.ensures) (listed word_steps (λ w. w.now) words_left (λ s t h. h.0) (λ s w t h. h) made)

pub returns-clause-runs : goal.returns-clause-runs
returns-clause-runs c = from_front word_steps (λ w. w.now) words_left (λ s t h. h.0) (λ s w t h. h)

pub returns-clause-sound : goal.returns-clause-sound
returns-clause-sound c = words_of_line c.args.line.now

pub returns-clause-laws : goal.returns-clause-laws
returns-clause-laws c = word_laws
