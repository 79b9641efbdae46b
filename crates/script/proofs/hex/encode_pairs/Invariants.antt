use Rattle.std.proofs.Common.{◌≡◌, ◌++◌, drop, string_bytes}
use Rattle.script.specs.Hexadecimal.{digits_of}
use Rattle.script.proofs.hex.encode_pairs.Given as goal

abbrev pub invariant-loop-byte : goal.invariant-loop-byte
invariant-loop-byte l = string_bytes l.digits ++ digits_of (drop l.byte-index l.bytes) ≡ digits_of l.bytes
