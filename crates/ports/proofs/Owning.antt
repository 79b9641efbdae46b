-- The row of the ports' own report.
use Rattle.std.proofs.Common.{◌≡◌, true, ℕ, zero, suc, ◌+◌, ◌-◌, ◌<◌, ◌≤◌, List, [], ◌∷◌, ◌++◌, map, length, get_or, Some, None, Option, sym, refl, ap, ◌∙◌, subst, arith}
use Rattle.std.proofs.lemmas.List.{append-nil, append_assoc, length-append, length-map}
use Rattle.std.proofs.lemmas.Bool.Decides.{nat_tests}
use Rattle.std.specs.List.Sorted.{IsPermutation}
use Rattle.wire.specs.declared.lines.Line.{Line}
use Rattle.rows.specs.declared.row.Row.{Row}
use Rattle.rows.specs.Rows.{lines_in}
use Rattle.rows.specs.Pushing.{has_room, pushed}
use Rattle.ports.specs.Held.{held}
use Rattle.ports.specs.Rows.{figure_to, line_with, lines_from, lines_to, row_of, up_lines, own_row, Own}
use Rattle.slots.specs.Slots.{UpLine, shown, line_of, neighbour_of}
use Rattle.ports.specs.declared.ports.Ports.{Ports}
use Rattle.slots.specs.declared.port.Port.{Port}
use Rattle.ports.proofs.Exactly.{exactly, few}
use Rattle.ports.proofs.Finding.{source}
use Rattle.ports.proofs.Laying.{row_push, row_lines, row_allowed}
use Rattle.ports.proofs.Rising.{rising}

-- no reported figure is 0, by its type
positive : (xs : List (Option Port)) (j : ℕ) (u : UpLine) → get_or (map shown xs) j None ≡ Some u → 1 ≤ u.reported
positive [] j u e = absurd (cc)
positive (None ∷ xs) zero u e = absurd (cc)
positive (Some p ∷ xs) zero u e = let same : line_of p ≡ u = cc in subst (λ (v : UpLine). 1 ≤ v.reported) same p.reported.least
positive (s ∷ xs) (suc j) u e = positive xs j u e

sound : (p : Ports) (n figure : ℕ) → figure_to n (map shown p.slots) ≡ Some figure → (n ≡ p.root → ⊥) × (1 ≤ figure)
sound p n figure e =
    let from = source (map shown p.slots) n figure e in
    let good = p.within from.place n (ap neighbour_of from.there ∙ ap Some from.leads) in
    (good.2, subst (λ (k : ℕ). 1 ≤ k) from.reports (positive p.slots from.place from.line from.there))

-- there are eight lines at most
few_lines : (p : Ports) → length (lines_to p.count (map shown p.slots)) ≤ 8
few_lines p = let slots = map shown p.slots in omega (arith, length-map p.slots shown, p.eight, few p.count p.root slots p.within p.apart)

pub owned : (p : Ports) → Own (held p) (own_row (held p))
owned p =
    let slots = map shown p.slots in
    record {
      value = refl;
      allowed = row_allowed p.count p.root (lines_to p.count slots) (few_lines p) (rising p.count p.root slots (sound p));
      exactly = subst (λ xs. IsPermutation (up_lines slots) xs) (sym (row_lines (lines_to p.count slots))) (exactly p.count p.root slots p.within p.apart);
    }

-- a row with the lines to the nodes below n: with those to the nodes from n on they are all
pub record Begun (p : Ports) (n : ℕ) (row : Row) : Type 0 where
  pub laid : row ≡ row_of (lines_in row)
  pub whole : lines_in row ++ lines_from n (p.count + 1 - n) (map shown p.slots) ≡ lines_to p.count (map shown p.slots)

-- at the end, it is the own report
pub done : (p : Ports) (n : ℕ) (row : Row) → Begun p n row → p.count < n → Own (held p) row
done p n row b h =
    let slots = map shown p.slots in
    let end : p.count + 1 - n ≡ 0 = omega arith in
    let all : lines_in row ≡ lines_to p.count slots =
    sym (append-nil (lines_in row)) ∙ ap (λ (m : ℕ). lines_in row ++ lines_from n m slots) (sym end) ∙ b.whole in
    subst (Own (held p)) (sym (b.laid ∙ ap row_of all)) (owned p)

module _ (p : Ports) (n : ℕ) (row : Row) (b : Begun p n row) (h : n ≤ p.count) where
  -- the line to the node itself, and those to later nodes
  split : (o : Option ℕ) → figure_to n (map shown p.slots) ≡ o → lines_in row ++ (line_with n o ++ lines_from (n + 1) (p.count + 1 - (n + 1)) (map shown p.slots)) ≡ lines_to p.count (map shown p.slots)
  split o e =
      let slots = map shown p.slots in
      let left : p.count + 1 - n ≡ suc (p.count + 1 - (n + 1)) = omega arith in
      ap (λ (q : Option ℕ). lines_in row ++ (line_with n q ++ lines_from (n + 1) (p.count + 1 - (n + 1)) slots)) (sym e)
      ∙ ap (λ (m : ℕ). lines_in row ++ lines_from n m slots) (sym left) ∙ b.whole

  pub without : figure_to n (map shown p.slots) ≡ None → Begun p (n + 1) row
  without e = record { laid = b.laid; whole = split None e }

  -- there is room for a line
  short : (figure : ℕ) → figure_to n (map shown p.slots) ≡ Some figure → length (lines_in row) < 8
  short figure e = omega (arith, simp length-append at (ap length (split (Some figure) e)), few_lines p)

  pub room : (figure : ℕ) → figure_to n (map shown p.slots) ≡ Some figure → has_room row ≡ true
  room figure e = let used = ap (λ (r : Row). r.used) b.laid in let few = short figure e in grind (arith, nat_tests)

  pub with_line : (figure : ℕ) (row' : Row) → figure_to n (map shown p.slots) ≡ Some figure → row' ≡ pushed row (record { neighbour = n; figure = figure }) → Begun p (n + 1) row'
  with_line figure row' e is =
      let x : Line = record { neighbour = n; figure = figure } in
      let more = is ∙ ap (λ (r : Row). pushed r x) b.laid ∙ row_push (lines_in row) x (short figure e) in
      let lines = ap lines_in more ∙ row_lines (lines_in row ++ x ∷ []) in
      record {
        laid = more ∙ ap row_of (sym lines);
        whole = rw (lines, append_assoc) (split (Some figure) e);
      }
