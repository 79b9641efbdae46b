use Rattle.std.proofs.Common.{[], ◌∷◌, ◌++◌, string_bytes, sym, ap, ◌∙◌, append-nil}
use lib.Utf8.{encode}
use Rattle.std.proofs.lemmas.List.{drop_all}
use Rattle.script.specs.Hexadecimal.{digits_of}
use Rattle.script.proofs.Pairs.{digits_more}
use Rattle.script.proofs.hex.encode_pairs.Goals as goal

pub loop-byte-preserved : goal.loop-byte-preserved
loop-byte-preserved c =
    let high = c.digit.ensures in
    let low = c.digit-in-loop-byte.ensures in
    let between = string_bytes c.push.new.self in
    let after = string_bytes c.push-in-loop-byte.new.self in
    digits_more {before = string_bytes c.loop-byte.digits} {between = between} {after = after} {high = encode c.digit.result} {low = encode c.digit-in-loop-byte.result} c.args.bytes.now c.loop-byte.byte-index c.loop-byte-test.true
    (record {
      first = c.in_ok-push.ensures.bytes;
      second = c.in_ok-push-2.ensures.bytes;
      top = c.push.ensures.ascii high.ascii ∙ ap (λ d. d ∷ []) high.value;
      end = c.push-in-loop-byte.ensures.ascii low.ascii ∙ ap (λ d. d ∷ []) low.value;
    })
    ∙ c.loop-byte.invariant

pub returns : goal.returns
returns c =
    let written = string_bytes c.loop-byte.digits in
    let end = drop_all c.loop-byte.byte-index c.args.bytes.now c.loop-byte-test.false in
    sym (append-nil written) ∙ ap (λ bs. written ++ digits_of bs) (sym end) ∙ c.loop-byte.invariant
