use Rattle.std.proofs.Common.{◌+◌, ◌*◌, min, drop, sym, ap, ◌∙◌, arith}
use Rattle.script.specs.Numbers.{value_after}
use Rattle.script.proofs.Capped.{capped, digit_more, value_more, stopped, refused, number_laws}
use Rattle.script.proofs.decimal.number.Goals as goal

pub returns-in_err-digit : goal.returns-in_err-digit
returns-in_err-digit c =
    let none = rw c.from.ensures at c.in_err-digit.ensures.value in
    let stop = stopped c.args.word.now c.loop-byte.byte-index c.loop-byte-test.true none in
    record {
      value = c.from_residual.ensures ∙ refused c.args.word.now c.args.largest (sym c.loop-byte.invariant.1 ∙ stop);
      laws = number_laws c.args.largest;
    }

pub loop-byte-preserved : goal.loop-byte-preserved
loop-byte-preserved c =
    let word = c.args.word.now in
    let i = c.loop-byte.byte-index in
    let here = c.loop-byte-test.true in
    let digit = rw c.from.ensures at c.in_ok-digit.ensures.value in
    let after = 10 * c.loop-byte.value + c.in_ok-digit.digit in
    let kept = ap (λ v. min (value_after v (drop (i + 1) word)) c.args.largest) c.with_digit-value.ensures in (
      omega (arith, c.with_digit-value.ensures),
      digit_more word i here _ digit.0 digit.1 ∙ c.loop-byte.invariant.1,
      kept ∙ capped c.args.largest after (drop (i + 1) word)
          ∙ ap (λ v. min v c.args.largest) (value_more word i here _ digit.0 digit.1 c.loop-byte.value) ∙ c.loop-byte.invariant.2,
    )
