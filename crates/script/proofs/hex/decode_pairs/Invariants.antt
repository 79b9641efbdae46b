use Rattle.std.proofs.Common.{◌≡◌, ◌++◌, drop, vec_items}
use Rattle.std.specs.Option.{option_map}
use Rattle.script.proofs.Pairs.{bytes_of_pairs}
use Rattle.script.proofs.hex.decode_pairs.Given as goal

abbrev pub invariant-loop-high : goal.invariant-loop-high
invariant-loop-high l = option_map (λ more. vec_items l.bytes ++ more) (bytes_of_pairs (drop l.high-index l.pairs)) ≡ bytes_of_pairs l.pairs
