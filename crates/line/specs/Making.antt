-- Making a record.
use Rattle.std.specs.Prelude.{ℕ, Bool, if◌then◌else◌, ◌&&◌, List, ◌++◌, Ok, Err, Result, nat_le, codes}
use Rattle.std.specs.Fmt.{decimal}
use Rattle.line.specs.Moves.{Shown, shown, fresh}
use Rattle.line.specs.declared.states.Down.{Down}
use Rattle.line.specs.declared.states.Record.TheVariants as record_of
use Rattle.line.specs.declared.making.Refusal.{Refusal}
use Rattle.line.specs.declared.making.Refusal.TheVariants as refusal_of

-- What asking for a record gives.
pub data Made : Type 0 where
  -- A record.
  made : Shown → Made
  -- A refusal, by its number.
  refused : ℕ → Made

-- The number of each refusal.
abbrev pub number_of : Refusal → ℕ
-- The slot does not lie in 1 to 8.
number_of refusal_of.Slot = 51
-- The neighbour does not lie in 1 to 64.
number_of refusal_of.Neighbour = 52

-- What a refusal prints.
abbrev pub refusal_text : Refusal → List ℕ
refusal_text e = codes "refused " ++ decimal (number_of e)

-- What each answer says.
abbrev pub answer : Result Down Refusal → Made
-- The record that was made.
answer (Ok d) = made (shown (record_of.Down d))
-- The number of the refusal.
answer (Err e) = refused (number_of e)

-- A number lies in low to high.
abbrev pub within : ℕ → ℕ → ℕ → Bool
within low high n = nat_le low n && nat_le n high

-- The questions in their order, the first no deciding: slot in 1 to 8, else 51; neighbour in 1 to 64, else 52; then the record is in Down with no message heard.
abbrev pub making : ℕ → ℕ → Made
making s n = if within 1 8 s then (if within 1 64 n then made (fresh s n) else refused 52) else refused 51
