use Rattle.std.proofs.Common.{◌≡◌, ℕ, ◌+◌, ◌<◌, List, set, replicate, refl, arith}
use Rattle.std.proofs.lemmas.List.{get_or-replicate}
use Rattle.retransmit.specs.Timers.{dropped}
use Rattle.retransmit.proofs.Every.{Full, every_low, row, row_none, row_set, low_row}
use Rattle.retransmit.proofs.timers.Timers.drop_slot.Goals as goal

-- nothing is left of a timer
abbrev none : ℕ → ℕ → ℕ
none o t = 0

emptied : (ts : List (List ℕ)) (slot i : ℕ) → Full ts → i + 1 ≡ slot → i < 8 → Full (set ts i (replicate 64 0)) × (set ts i (replicate 64 0) ≡ dropped slot ts)
emptied ts slot i h is within = row_set ts h slot none i (replicate 64 0) is within refl (λ j l. get_or-replicate 64 j 0 0 l)

pub invariant_of-self : goal.invariant_of-self
invariant_of-self c =
    let ts = c.args.self.now.left in
    let slot = c.args.slot in
    let h : Full ts = record { full = c.args.self.now.full; each = c.args.self.now.each } in
    let p = emptied ts slot c.place-slot.result h (omega arith) c.if-slot-lt8.true in
    record { full = p.0.full; each = p.0.each; low = every_low (row ts h slot none) _ p.0 p.1 (low_row ts h slot none c.args.self.now.low (λ _ _ _. omega arith)) }

pub returns-then-slot-lt8 : goal.returns-then-slot-lt8
returns-then-slot-lt8 c =
    let h : Full c.args.self.now.left = record { full = c.args.self.now.full; each = c.args.self.now.each } in
    (emptied c.args.self.now.left c.args.slot c.place-slot.result h (omega arith) c.if-slot-lt8.true).1

pub returns-else-slot-lt8 : goal.returns-else-slot-lt8
returns-else-slot-lt8 c =
    let h : Full c.args.self.now.left = record { full = c.args.self.now.full; each = c.args.self.now.each } in
    row_none c.args.self.now.left h c.args.slot none (λ p q. omega arith)
