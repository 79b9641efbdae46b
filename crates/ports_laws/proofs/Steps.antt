-- What a call that was not refused did.
use Rattle.std.proofs.Common.{arith, ◌≡◌, ℕ, ◌+◌, Bool, true, false, not, nat_le, ◌==◌, Some, None, Ok, Err, Option, Result, sym, refl, ap, ◌∙◌}
use Rattle.std.proofs.lemmas.Bool.Decides.{nat_tests}
use Rattle.timing.specs.Tallies.{Totals, noting}
use Rattle.slots.specs.declared.refusal.Refusal.{Refusal}
use Rattle.slots.specs.declared.refusal.Refusal.TheVariants as refusal
use Rattle.slots.specs.Refusals.{ask, given, after, on_ok}
use Rattle.slots.specs.Slots.{UpLine, is_up}
use Rattle.slots.specs.Lines.{Supply, supplied, raised_line, delayed, noted}
use Rattle.ports.specs.Held.{Held, slot_at, put}
use Rattle.ports.specs.Rows.{served, reporting}
use Rattle.ports.specs.Calls.{raising, dropping, up_line_at, Noting, noting_on}

asked_ok : {X : Type 0} (b : Bool) (e : Refusal) (r : Result X Refusal) (x : X) → ask b e r ≡ Ok x → r ≡ Ok x
asked_ok true e r x h = h
asked_ok false e r x h = absurd (cc)

on_ok_lem : {X Y : Type 0} (f : X → Y) (r : Result X Refusal) (y : Y) → on_ok f r ≡ Ok y → (x : X) × (r ≡ Ok x) × (f x ≡ y)
on_ok_lem f (Ok x) y h = let same : f x ≡ y = cc in (x, refl, same)
on_ok_lem f (Err e) y h = absurd (cc)

-- a raising puts a line with nothing noted into the slot
pub raised_ok : (h : Held) (s n v p : ℕ) (h' : Held) → raising h s n v p ≡ Ok h' → (c : Supply) × (reporting (put s (Some (raised_line n c)) h) ≡ h')
raised_ok h s n v p h' e =
    let first = asked_ok (nat_le n h.count) refusal.NeighbourBeyondCount _ h' e in
    let second = asked_ok (not (n == h.root)) refusal.NeighbourIsRoot _ h' first in
    let third = asked_ok (not (is_up (slot_at h.slots s))) refusal.SlotInUse _ h' second in
    let fourth = asked_ok (not (served n h.slots)) refusal.NeighbourServed _ h' third in
    let put' = on_ok_lem (λ c. reporting (put s (Some (raised_line n c)) h)) (supplied v p) h' fourth in
    (put'.0, put'.2)

-- a dropping makes a slot unused that was up
pub dropped_ok : (h : Held) (s : ℕ) (h' : Held) → dropping h s ≡ Ok h' → (u : UpLine) × (up_line_at h.slots s ≡ Ok u) × (reporting (put s None h) ≡ h')
dropped_ok h s h' e = on_ok_lem (λ _. reporting (put s None h)) (up_line_at h.slots s) h' e

-- what a noting did to the slot, which was up
pub record Noted (h : Held) (s : ℕ) (n : Noting) : Type 0 where
  pub line : UpLine
  pub totals : Totals
  pub stood : up_line_at h.slots s ≡ Ok line
  pub adds : noting line.noted n.delay ≡ Some totals
  pub leaves : n.leaves ≡ put s (Some (record line { noted = totals })) h

-- what it gives
abbrev given_noting : Held → ℕ → ℕ → UpLine → Noting
given_noting h s d v = record { leaves = put s (Some v) h; delay = d }

pub noted_ok : (h : Held) (s arrived sent words : ℕ) (n : Noting) → noting_on h s arrived sent words ≡ Ok n → Noted h s n
noted_ok h s arrived sent words n e = go (up_line_at h.slots s) refl e
  where
    add : (u : UpLine) → up_line_at h.slots s ≡ Ok u → (d : ℕ) (o : Option Totals) → noting u.noted d ≡ o
        → on_ok (given_noting h s d) (given o refusal.CountFull (λ t. Ok (record u { noted = t }))) ≡ Ok n → Noted h s n
    add u stood d None none e' = absurd (cc)
    add u stood d (Some t) some e' =
        let is : given_noting h s d (record u { noted = t }) ≡ n = cc in
        record { line = u; totals = t; stood = stood; adds = ap (noting u.noted) (sym (ap (λ (m : Noting). m.delay) is)) ∙ some; leaves = sym (ap (λ (m : Noting). m.leaves) is) }

    timed : (u : UpLine) → up_line_at h.slots s ≡ Ok u → (r : Result ℕ Refusal) → after r (λ d. on_ok (given_noting h s d) (noted u d)) ≡ Ok n → Noted h s n
    timed u stood (Err x) e' = absurd (cc)
    timed u stood (Ok d) e' = add u stood d (noting u.noted d) refl e'

    go : (r : Result UpLine Refusal) → up_line_at h.slots s ≡ r → after r (λ u. after (delayed u arrived sent words) (λ d. on_ok (given_noting h s d) (noted u d))) ≡ Ok n → Noted h s n
    go (Err x) stood e' = absurd (cc)
    go (Ok u) stood e' = timed u stood (delayed u arrived sent words) e'

-- noting adds the delay, and 1
pub sums : (t t' : Totals) (d : ℕ) → noting t d ≡ Some t' → (t'.sum ≡ t.sum + d) × (t'.count ≡ t.count + 1)
sums t t' d e = (grind (arith, nat_tests), grind (arith, nat_tests))
