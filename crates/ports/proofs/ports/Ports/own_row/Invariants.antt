use Rattle.ports.proofs.Owning.{Begun}
use Rattle.ports.proofs.ports.Ports.own_row.Given as goal

-- the row has the lines to the nodes so far
abbrev pub invariant-loop-neighbour : goal.invariant-loop-neighbour
invariant-loop-neighbour l = Begun l.self l.neighbour l.row
