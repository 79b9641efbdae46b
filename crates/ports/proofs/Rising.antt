-- The lines of an own report rise, go to other nodes of the network, and have no figure 0.
use Rattle.std.proofs.Common.{◌≡◌, ℕ, zero, suc, ◌+◌, ◌<◌, ◌≤◌, true, List, ◌++◌, Some, None, Option, refl, arith}
use Rattle.std.proofs.lemmas.Bool.Decides.{nat_tests}
use Rattle.wire.specs.declared.lines.Line.{Line}
use Rattle.rows.specs.Rows.{allowed}
use Rattle.ports.specs.Rows.{figure_to, line_with, lines_from, lines_to}
use Rattle.slots.specs.Slots.{State}

module _ (count root : ℕ) (slots : List State) (sound : (n figure : ℕ) → figure_to n slots ≡ Some figure → (n ≡ root → ⊥) × (1 ≤ figure)) where
  -- the line to one node, before lines that may follow it
  one : (a p : ℕ) (o : Option ℕ) (rest : List Line) → figure_to a slots ≡ o → p < a → a ≤ count
      → ((q : ℕ) → q ≤ a → allowed count root q rest ≡ true) → allowed count root p (line_with a o ++ rest) ≡ true
  one a p None rest e low high more = more p (omega arith)
  one a p (Some figure) rest e low high more = let good = sound a figure e in let follows = more a (omega arith) in grind (arith, nat_tests)

  from : (a m p : ℕ) → p < a → a + m ≤ count + 1 → allowed count root p (lines_from a m slots) ≡ true
  from a zero p low high = refl
  from a (suc m) p low high =
      one a p (figure_to a slots) (lines_from (a + 1) m slots) refl low (omega arith) (λ q below. from (a + 1) m q (omega arith) (omega arith))

  pub rising : allowed count root 0 (lines_to count slots) ≡ true
  rising = from 1 count 0 (omega arith) (omega arith)
