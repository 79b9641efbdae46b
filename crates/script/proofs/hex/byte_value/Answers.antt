use Rattle.script.proofs.Pairs.{byte_is}
use Rattle.script.proofs.hex.byte_value.Goals as goal

pub returns : goal.returns
returns c =
    byte_is c.args.high c.args.low _ _ (rw c.from.ensures at c.in_ok-high.ensures.value) (rw c.from-2.ensures at c.in_ok-low.ensures.value)
