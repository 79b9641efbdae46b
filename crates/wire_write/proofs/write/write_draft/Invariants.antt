use Rattle.wire_write.proofs.Laid.{Sofar}
use Rattle.wire_write.proofs.write.write_draft.Given as goal

abbrev pub invariant-loop-line : goal.invariant-loop-line
invariant-loop-line l = Sofar l.lines l.initial.out l.out l.line-index l.end
