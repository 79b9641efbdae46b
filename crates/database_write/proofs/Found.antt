-- What is answered and left where the entry was found and is in force.
use Rattle.std.proofs.Common.{◌≡◌, ℕ, ◌≤◌, Bool, List, Some, arith}
use Rattle.std.proofs.lemmas.Bool.Decides.{nat_tests}
use Rattle.wire.specs.Form.{encode}
use Rattle.wire_write.specs.Putting.{put, put_answer}
use Rattle.entries.specs.declared.entry.Entry.{Entry}
use Rattle.database.specs.States.{State, held, entry_of}
use Rattle.database_write.specs.Writing.{report_from, after_put, entry_answer, entry_buffer}

module _ (s : State) (origin : ℕ) (retry : Bool) (e : Entry) (found : Some e ≡ entry_of s origin) (force : 1 ≤ e.age) where
  pub is_held : e ≡ held s origin
  is_held = grind (arith, nat_tests)

  pub range : (1 ≤ origin) × (origin ≤ s.count)
  range = (grind (arith, nat_tests), grind (arith, nat_tests))

  pub answered : (old : List ℕ) → after_put (put_answer (encode (report_from origin retry e)) old) ≡ entry_answer s origin retry old
  answered old = let h = is_held in grind (arith, nat_tests)

  pub buffered : (old : List ℕ) → put (encode (report_from origin retry e)) old ≡ entry_buffer s origin retry old
  buffered old = let h = is_held in grind (arith, nat_tests)
