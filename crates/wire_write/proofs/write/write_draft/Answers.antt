use Rattle.std.proofs.Common.{◌≡◌, ◌+◌, ◌-◌, ◌*◌, ◌<◌, ◌≤◌, ◌++◌, length, drop, sym, refl, ap, ◌∙◌, arith, rules}
use Rattle.wire.specs.Lines.{pair_bytes}
use Rattle.wire_write.specs.Putting.{drafted}
use Rattle.wire.specs.Form.{head, encode}
use Rattle.wire_write.proofs.Laid.{put_short, answer_fits, one_more, all_laid, put_returns}
use Rattle.wire.proofs.Pairs.{pairs_length}
use Rattle.wire_write.proofs.write.write_draft.Goals as goal

pub returns-then-out-lt-HEAD : goal.returns-then-out-lt-HEAD
returns-then-out-lt-HEAD c =
    let l : length c.args.out.now < 15 + 3 * length c.args.draft.now.lines.now = search rules in
    let p = put_short (encode (drafted c.args.draft.now)) c.args.out.now (omega (arith, pairs_length c.args.draft.now.lines.now)) in
    record { answer = sym p.1; buffer = sym p.0; reads_back = λ _. tt }

pub loop-line-preserved : goal.loop-line-preserved
loop-line-preserved c =
    let fits : c.loop-line.end + 3 ≤ length c.loop-line.out = search rules in
    let three : c.loop-line.end + 3 - c.loop-line.end ≡ 3 = omega arith in
    one_more c.args.draft.now.lines.now _ c.loop-line.out _ c.loop-line.line-index c.loop-line.end _ _ c.loop-line.invariant
    c.loop-line-test.true (c.copy_from_slice-in-loop-line.ensures.after ∙ c.from.ensures) three fits

pub returns : goal.returns
returns c =
    let lines = c.args.draft.now.lines.now in
    let three = pairs_length lines in
    let l : 15 + 3 * length lines ≤ length c.args.out.now = search rules in
    let h : c.copy_from_slice.new.self ≡ head c.args.draft.now.header (length (pair_bytes lines)) =
    c.copy_from_slice.ensures.after ∙ c.head_bytes.ensures ∙ ap (head c.args.draft.now.header) (sym three) in
    let done =
    all_laid lines (head c.args.draft.now.header (length (pair_bytes lines))) c.args.out.now _ c.loop-line.out c.loop-line.line-index
    c.loop-line.end refl l (ap (λ t. t ++ drop 15 c.args.out.now) h) c.loop-line.invariant c.loop-line-test.false c.loop-line.auto.line-index-end in
    let q = drafted c.args.draft.now in
    let room : c.loop-line.end ≤ length c.args.out.now = omega (arith, c.loop-line.invariant.at, c.loop-line.auto.line-index-end) in
    record {
      answer = answer_fits (encode q) c.args.out.now c.loop-line.end (sym done.1) room;
      buffer = done.0;
      reads_back = λ ok. put_returns q c.args.out.now c.loop-line.out c.loop-line.end ok done.0 done.1 room;
    }
