use Rattle.std.proofs.Common.{◌≡◌, ◌++◌, ◌<◌, length, Some, vec_items, sym, ap, ◌∙◌, append-nil, arith, rules}
use Rattle.std.specs.Option.{option_map}
use Rattle.std.proofs.lemmas.List.{drop_all}
use Rattle.script.proofs.Pairs.{bytes_of_pairs, even, odd, no_pairs, byte_more, no_byte}
use Rattle.script.proofs.hex.decode_pairs.Goals as goal

pub returns-in_default : goal.returns-in_default
returns-in_default c =
    let none = no_byte c.as_chunks.result.0.now c.loop-high.high-index c.loop-high-test.true (vec_items c.loop-high.bytes) (sym c.in_default.ensures) in
    sym (no_pairs c.args.digits.now (ap bytes_of_pairs (sym c.as_chunks.ensures.front) ∙ sym c.loop-high.invariant ∙ none))

pub loop-high-preserved : goal.loop-high-preserved
loop-high-preserved c =
    byte_more c.as_chunks.result.0.now c.loop-high.high-index c.loop-high-test.true (vec_items c.loop-high.bytes) (vec_items c.push.new.self) c.in-Some.byte
    (sym c.in-Some.ensures) c.in_ok-push.ensures.items ∙ c.loop-high.invariant

-- a digit is left over
pub returns-then-not-is_empty : goal.returns-then-not-is_empty
returns-then-not-is_empty c =
    let some : 0 < length c.as_chunks.result.1.now = search rules in
    sym (odd c.args.digits.now (omega (arith, c.as_chunks.ensures.back_len, some)))

-- no digit is left over
pub returns : goal.returns
returns c =
    let bytes = vec_items c.loop-high.bytes in
    let none : length c.as_chunks.result.1.now ≡ 0 = search rules in
    let end = drop_all c.loop-high.high-index c.as_chunks.result.0.now c.loop-high-test.false in
    ap Some (sym (append-nil bytes)) ∙ ap (λ ps. option_map (λ more. bytes ++ more) (bytes_of_pairs ps)) (sym end)
    ∙ c.loop-high.invariant ∙ ap bytes_of_pairs c.as_chunks.ensures.front ∙ sym (even c.args.digits.now (omega (arith, c.as_chunks.ensures.back_len, none)))
