use Rattle.std.proofs.Common.{◌≡◌, ◌≤◌, min, drop}
use Rattle.std.specs.Str.{all_ascii_digits}
use Rattle.script.specs.Numbers.{value_after}
use Rattle.script.proofs.decimal.number.Given as goal

abbrev pub invariant-loop-byte : goal.invariant-loop-byte
invariant-loop-byte l = (l.value ≤ l.largest) × (all_ascii_digits (drop l.byte-index l.word) ≡ all_ascii_digits l.word)
    × (min (value_after l.value (drop l.byte-index l.word)) l.largest ≡ min (value_after 0 l.word) l.largest)
