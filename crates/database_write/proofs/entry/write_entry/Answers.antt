use Rattle.std.proofs.Common.{◌≡◌, ℕ, ◌≤◌, Bool, true, List, Ok, Some, sym, ap, ◌∙◌, subst, arith, rules}
use Rattle.wire.specs.declared.lines.Line.{Line}
use Rattle.wire.specs.Reports.{Content, Allowed}
use Rattle.wire.specs.Form.{encode}
use Rattle.wire_write.specs.Putting.{put, put_answer}
use Rattle.database.specs.States.{state, entry_of}
use Rattle.entries.specs.declared.entry.Entry.{Entry}
use Rattle.entries.specs.Entries.{sound_entry}
use Rattle.database_write.specs.Writing.{report_from, after_put}
use Rattle.database_write.proofs.Sayable.{sayable}
use Rattle.database_write.proofs.Found.{is_held, range, answered, buffered}
use Rattle.database_write.proofs.entry.write_entry.Goals as goal

-- what is drafted
abbrev drafted : ℕ → Bool → Entry → List Line → Content
drafted origin retry e ls = record { header = record { origin = origin; serial = e.serial; age = e.age; retry = retry }; lines = ls }

pub returns : goal.returns
returns c =
    let db = state c.args.database.now in
    let origin = c.args.origin in
    let retry = c.args.retry in
    let e = c.in_ok-entry.entry in
    let out = c.args.out.now in
    let found : Some e ≡ entry_of db origin = search rules in
    let force : 1 ≤ e.age = omega arith in
    let sound : sound_entry db.count origin e ≡ true = search rules in
    let r = range db origin retry e found force in
    let q : drafted origin retry e c.lines-lines.result.now ≡ report_from origin retry e = ap (drafted origin retry e) c.lines-lines.ensures in
    let ok = sayable db.count origin retry e c.args.database.now.range.2 r.0 r.1 force sound in
    record {
      answer = sym (ap after_put c.in_ok-write_draft.was) ∙ ap after_put c.write_draft.ensures.answer ∙ ap (λ t. after_put (put_answer (encode t) out)) q ∙ answered db origin retry e found force out;
      buffer = c.write_draft.ensures.buffer ∙ ap (λ t. put (encode t) out) q ∙ buffered db origin retry e found force out;
      reads_back = c.in_ok-write_draft.ensures.reads_back (subst Allowed (sym q) ok) ∙ ap Ok (q ∙ ap (report_from origin retry) (is_held db origin retry e found force));
    }
