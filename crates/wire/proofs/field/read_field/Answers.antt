use Rattle.std.proofs.Common.{◌∙◌, sym, ap, rules}
use Rattle.wire.specs.Fields.{shown_field}
use Rattle.wire.proofs.Framed.{value_comes}
use Rattle.wire.proofs.field.read_field.Goals as goal

pub returns-clause-value : goal.returns-clause-value
returns-clause-value c =
    let tail = c.in-Some-len3-up in
    let there = tail.ensures.lookup.0 in
    ap shown_field c.ok_or.ensures.value
    ∙ rw c.at-2.ensures
    (value_comes c.args.tag c.args.place c.args.bytes.now tail.field-0.now c.from-length.result c.field.result there.2 there.3 tail.len_at_least
    (c.if-first-number.false ∙ c.number.ensures) (c.from-length.ensures ∙ c.from_be_bytes.ensures) (sym c.if-not-permits.ensures)
    (search rules) c.field.ensures.says)
