-- What a noting, and the questions before it, say of the slot.
use Rattle.std.proofs.Common.{◌≡◌, ℕ, ◌-◌, ◌≤◌, List, get_or, Some, None, Ok, Option, sym, ap, arith}
use Rattle.std.proofs.lemmas.Bool.Decides.{nat_tests}
use Rattle.timing.specs.Tallies.{Totals, noting}
use Rattle.ports.specs.Calls.{up_line_at}
use Rattle.slots.specs.Lines.{noted}
use Rattle.slots.specs.Refusals.{given}
use Rattle.slots.specs.Slots.{State, UpLine}
use Rattle.slots.specs.declared.refusal.Refusal.TheVariants as refusal

-- the line of a slot that is up, by its number
pub record Stands (slots : List State) (s : ℕ) (u : UpLine) : Type 0 where
  pub low : 1 ≤ s
  pub high : s ≤ 8
  pub there : get_or slots (s - 1) None ≡ Some u

pub stands : (slots : List State) (s : ℕ) (u : UpLine) → up_line_at slots s ≡ Ok u → Stands slots s u
stands slots s u e = record { low = grind (arith, nat_tests); high = grind (arith, nat_tests); there = grind (arith, nat_tests) }

-- a noting keeps the neighbour
pub noted_neighbour : (u v : UpLine) (d : ℕ) → noted u d ≡ Ok v → v.neighbour ≡ u.neighbour
noted_neighbour u v d e = go (noting u.noted d) e
  where
    go : (o : Option Totals) → given o refusal.CountFull (λ t. Ok (record u { noted = t })) ≡ Ok v → v.neighbour ≡ u.neighbour
    go None e' = absurd (cc)
    go (Some t) e' = let same : record u { noted = t } ≡ v = cc in sym (ap (λ (w : UpLine). w.neighbour) same)
