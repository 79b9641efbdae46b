use Rattle.std.proofs.Common.{◌-◌, set, replicate}
use Rattle.spf_tree.proofs.begin.root_alone.Goals as goal

pub returns : goal.returns
returns c =
    let none = c.default-none.ensures in
    λ i. set (replicate 64 (record { distance = none.0 i; parent = none.1.0 i; hop = none.1.1 i })) (c.from.ensures i - 1) (c.new.ensures i)
