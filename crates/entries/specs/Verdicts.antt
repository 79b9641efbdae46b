-- What taking a report is answered, and the refusals.
use Rattle.std.specs.Prelude.{Bool, true, false, ℕ, List, ◌++◌, codes}
use Rattle.std.specs.Fmt.{decimal}
use Rattle.wire.specs.Faults.{read_number}
use Rattle.entries.specs.declared.freshness.Freshness.{Freshness}
use Rattle.entries.specs.declared.freshness.Freshness.TheVariants as compared
use Rattle.entries.specs.declared.verdicts.Taken.{Taken}
use Rattle.entries.specs.declared.verdicts.Taken.TheVariants as taken
use Rattle.entries.specs.declared.verdicts.TakeFault.{TakeFault}
use Rattle.entries.specs.declared.verdicts.TakeFault.TheVariants as fault

-- The number of each refusal: a reading fault keeps its own.
abbrev pub take_number : TakeFault → ℕ
take_number (fault.Read e) = read_number e.question
take_number fault.Origin = 23
take_number (fault.Neighbour p) = 24

-- The byte that the question was asked of: a reading fault keeps its own, and the origin stands at 3.
abbrev pub take_place : TakeFault → ℕ
take_place (fault.Read e) = e.place
take_place fault.Origin = 3
take_place (fault.Neighbour p) = p

-- What a refusal prints: its number and its place.
abbrev pub take_text : TakeFault → List ℕ
take_text f = codes "refused " ++ decimal (take_number f) ++ codes " at " ++ decimal (take_place f)

-- What a report is answered, by what it is to the entry, and whether it is of the root's own number.
abbrev pub verdict : Freshness → Bool → Taken
-- Accepted: newer, from another node.
verdict compared.Newer false = taken.Accepted
-- Own: newer, but from the root's own number.
verdict compared.Newer true = taken.Own
-- Duplicate and older, whoever the origin is.
verdict compared.Duplicate own = taken.Duplicate
verdict compared.Older own = taken.Older
