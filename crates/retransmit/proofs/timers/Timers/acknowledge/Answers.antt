use Rattle.std.proofs.Common.{◌≡◌, ℕ, ◌+◌, ◌<◌, cond, nat_eq, List, [], length, get_or, set, sym, ap, ◌∙◌, inl, inr, arith}
use Rattle.std.proofs.lemmas.List.{length-set, get_or-set_same, get_or-set_other}
use Rattle.std.proofs.lemmas.Bool.{cases_eq, eq-eqb, ne_eqb, cond-true, cond-false}
use Rattle.retransmit.proofs.Every.{Full, one_timer, row_none, row_set, row_same}
use Rattle.retransmit.proofs.timers.Timers.acknowledge.Goals as goal

-- the timer of one origin
abbrev cleared : ℕ → ℕ → ℕ → ℕ
cleared origin o t = cond (nat_eq o origin) 0 t

one_cleared : (origin i : ℕ) (xs : List ℕ) → i + 1 ≡ origin → i < length xs → (j : ℕ) → get_or (set xs i 0) j 0 ≡ cleared origin (j + 1) (get_or xs j 0)
one_cleared origin i xs is within j =
    elim (cases_eq j i) [
      | inl same ↦ ap (λ (k : ℕ). get_or (set xs i 0) k 0) same ∙ get_or-set_same xs i 0 0 within ∙ sym (cond-true (nat_eq (j + 1) origin) 0 (get_or xs j 0) (eq-eqb (j + 1) origin (omega arith)))
      | inr other ↦ get_or-set_other xs i j 0 0 other ∙ sym (cond-false (nat_eq (j + 1) origin) 0 (get_or xs j 0) (ne_eqb (j + 1) origin (λ e. other (omega arith))))
    ]

pub returns-then-origin-lt64 : goal.returns-then-origin-lt64
returns-then-origin-lt64 c =
    let ts = c.args.self.now.left in
    let h : Full ts = record { full = c.args.self.now.full; each = c.args.self.now.each } in
    let i = c.place-slot.result in
    let slot : i + 1 ≡ c.args.slot = omega arith in
    let origin : c.place-origin.result + 1 ≡ c.args.origin = omega arith in
    let size = h.each i c.if-slot-lt8.true in
    let each = one_cleared c.args.origin c.place-origin.result (get_or ts i []) origin (omega arith) in
    (row_set ts h c.args.slot (cleared c.args.origin) i (set (get_or ts i []) c.place-origin.result 0) slot c.if-slot-lt8.true (length-set (get_or ts i []) c.place-origin.result 0 ∙ size) (λ j l. each j)).1
    ∙ one_timer c.args.slot c.args.origin ts

pub returns-else-slot-lt8 : goal.returns-else-slot-lt8
returns-else-slot-lt8 c =
    let ts = c.args.self.now.left in
    let h : Full ts = record { full = c.args.self.now.full; each = c.args.self.now.each } in
    elim c.else-slot-lt8.either [
      | inl no_origin ↦
          let above = no_origin.1 in
          row_same ts h c.args.slot (cleared c.args.origin) (λ o t low high. cond-false (nat_eq o c.args.origin) 0 t (ne_eqb o c.args.origin (λ e. omega arith)))
          ∙ one_timer c.args.slot c.args.origin ts
      | inr no_slot ↦ row_none ts h c.args.slot (cleared c.args.origin) (λ low high. omega arith) ∙ one_timer c.args.slot c.args.origin ts
    ]
