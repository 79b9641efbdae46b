use Rattle.std.proofs.Common.{◌≡◌, ◌+◌, ◌*◌, ◌≤◌, length}
use Rattle.std.specs.Iterator.Adapters.{enumerate_source, enumerate_count}
use Rattle.wire.specs.Lines.{lines_of}
use Rattle.wire.specs.Reports.{judge_lines}
use Rattle.wire.proofs.report.check_lines.Given as goal

-- what is still to be asked decides, and there are few lines left
abbrev pub invariant-loop-i : goal.invariant-loop-i
invariant-loop-i l =
    (goal.iterator-loop-i).can_next l.i-iterator
    × (goal.iterator-loop-i).is_finite l.i-iterator
    × (judge_lines l.origin l.previous (15 + 3 * enumerate_count l.i-iterator) (lines_of (enumerate_source l.i-iterator).rest.now)
    ≡ judge_lines l.origin 0 15 (lines_of l.lines.rest.now))
    × (enumerate_count l.i-iterator + length (lines_of (enumerate_source l.i-iterator).rest.now) ≤ 8)
