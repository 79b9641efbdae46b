-- A slot's sum and count, call by call.
use Rattle.std.proofs.Common.{◌≡◌, ℕ, zero, suc, ◌+◌, ◌-◌, ◌≤◌, Bool, ◌⊎◌, List, [], ◌∷◌, map, length, get_or, set, replicate, Some, None, Ok, Err, Result, sym, refl, ap, ◌∙◌, subst, inl, inr, arith}
use Rattle.std.proofs.lemmas.List.{get_or-set_other, get_or_past, length-set}
use Rattle.std.proofs.lemmas.List.Sums.{sum_by-cons}
use Rattle.std.proofs.lemmas.Grind.{get_or-set_at}
use Rattle.std.proofs.lemmas.Bool.{cases_eq, cases_lt, eq-eqb, ne_eqb}
use Rattle.std.proofs.lemmas.Bool.Decides.{nat_tests}
use Rattle.timing.specs.Tallies.{Totals, nothing}
use Rattle.slots.specs.declared.refusal.Refusal.{Refusal}
use Rattle.slots.specs.Refusals.{on_ok, kept}
use Rattle.slots.specs.Slots.{UpLine, State}
use Rattle.slots.specs.Lines.{raised_line, begun_line, begun}
use Rattle.ports.specs.Held.{Held, fresh, slot_at}
use Rattle.ports.specs.Calls.{slot_of, neighbour_in, raising, dropping, Noting, noting_on, leaves_of, delay_in}
use Rattle.ports.specs.Closing.{due}
use Rattle.ports.proofs.Noting.{Stands, stands}
use Rattle.ports_laws.specs.Runs.{Call, raise, drop, note, close, report, leaves, Answer, raised, dropped, noted, told, answer, holds, answers}
use Rattle.ports_laws.specs.Laws.{noted_since, SumsUp, SumsOfPeriod}
use Rattle.ports_laws.proofs.Steps.{raised_ok, dropped_ok, noted_ok, sums}

-- a slot that is up, by its place
place : (slots : List State) (s : ℕ) (u : UpLine) → slot_at slots s ≡ Some u → Stands slots s u
place slots s u e = record { low = grind (arith, nat_tests); high = grind (arith, nat_tests); there = grind (arith, nat_tests) }

placed : (slots : List State) (s : ℕ) (u : UpLine) → Stands slots s u → slot_at slots s ≡ Some u
placed slots s u at = grind (arith, nat_tests)

-- a slot that is up after a replacing is the new one, or another that was up before
replaced : (slots : List State) (s s' : ℕ) (x : State) (u : UpLine) → 1 ≤ s' → slot_at (set slots (s' - 1) x) s ≡ Some u
    → ((s' ≡ s) × (x ≡ Some u)) ⊎ ((s' ≡ s → ⊥) × (slot_at slots s ≡ Some u))
replaced slots s s' x u low e =
    let after = set slots (s' - 1) x in
    let at = place after s u e in
    elim (cases_eq s' s) [
      | inl same ↦ elim (cases_lt (s - 1) (length slots)) [
        | inl inside ↦ inl (same, sym (get_or-set_at slots (s' - 1) (s - 1) x None (omega arith) (omega arith)) ∙ at.there)
        | inr outside ↦ let past = get_or_past after (s - 1) None (omega (arith, length-set slots (s' - 1) x)) in absurd (cc)
      ]
      | inr other ↦ let was = sym (get_or-set_other slots (s' - 1) (s - 1) x None (λ d. other (omega (arith, at.low)))) ∙ at.there in
          inr (other, placed slots s u (record { low = at.low; high = at.high; there = was }))
    ]

-- what a noting did to the slot
record Added (h : Held) (s : ℕ) (n : Noting) : Type 0 where
  pub old : UpLine
  pub new : UpLine
  pub low : 1 ≤ s
  pub stood : slot_at h.slots s ≡ Some old
  pub sum : new.noted.sum ≡ old.noted.sum + n.delay
  pub count : new.noted.count ≡ old.noted.count + 1
  pub slots : n.leaves.slots ≡ set h.slots (s - 1) (Some new)

added : (h : Held) (s arrived sent words : ℕ) (n : Noting) → noting_on h s arrived sent words ≡ Ok n → Added h s n
added h s arrived sent words n e =
    let did = noted_ok h s arrived sent words n e in
    let at = stands h.slots s did.line did.stood in
    let more = sums did.line.noted did.totals n.delay did.adds in
    record {
      old = did.line;
      new = record did.line { noted = did.totals };
      low = at.low;
      stood = placed h.slots s did.line at;
      sum = more.0;
      count = more.1;
      slots = ap (λ (x : Held). x.slots) did.leaves;
    }

-- a new period has nothing noted
begun_noted : (b : Bool) (slots : List State) (i : ℕ) (u : UpLine) → get_or (map (begun b) slots) i None ≡ Some u → u.noted ≡ nothing
begun_noted b [] i u e = absurd (cc)
begun_noted b (None ∷ slots) zero u e = absurd (cc)
begun_noted b (Some v ∷ slots) zero u e = let is : begun_line b v ≡ u = cc in sym (ap (λ (w : UpLine). w.noted) is)
begun_noted b (s ∷ slots) (suc i) u e = begun_noted b slots i u e

-- nothing noted
empty : (u : UpLine) → u.noted ≡ nothing → SumsUp [] u
empty u e = record { adds = ap (λ (t : Totals). t.sum) e; counts = ap (λ (t : Totals). t.count) e }

module _ (h : Held) (run : List Answer) (before : SumsOfPeriod h run) where
  raising_sums : (s' : ℕ) → 1 ≤ s' → (r : Result Held Refusal)
      → ((h' : Held) → r ≡ Ok h' → (v : UpLine) × (v.noted ≡ nothing) × (h'.slots ≡ set h.slots (s' - 1) (Some v)))
      → SumsOfPeriod (kept h r) (told (λ _. raised s') r ∷ run)
  raising_sums s' low (Err refused) new s u e = before s u e
  raising_sums s' low (Ok h') new s u e =
      let v = new h' refl in
      elim (replaced h.slots s s' (Some v.0) u low (subst (λ t. slot_at t s ≡ Some u) v.2 e)) [
        | inl (same, up) ↦ let is : v.0 ≡ u = cc in rw (eq-eqb s' s same) (empty u (ap (λ (w : UpLine). w.noted) (sym is) ∙ v.1))
        | inr (other, was) ↦ rw (ne_eqb s' s other) (before s u was)
      ]

  dropping_sums : (s' : ℕ) (r : Result Held Refusal)
      → ((h' : Held) → r ≡ Ok h' → (1 ≤ s') × (h'.slots ≡ set h.slots (s' - 1) None))
      → SumsOfPeriod (kept h r) (told (λ _. dropped s') r ∷ run)
  dropping_sums s' (Err refused) new s u e = before s u e
  dropping_sums s' (Ok h') new s u e =
      let v = new h' refl in
      elim (replaced h.slots s s' None u v.0 (subst (λ t. slot_at t s ≡ Some u) v.1 e)) [
        | inl (same, up) ↦ absurd (cc)
        | inr (other, was) ↦ before s u was
      ]

  noting_sums : (s' : ℕ) (r : Result Noting Refusal) → ((n : Noting) → r ≡ Ok n → Added h s' n)
      → SumsOfPeriod (kept h (on_ok leaves_of r)) (told (λ n. noted s' (delay_in n)) r ∷ run)
  noting_sums s' (Err refused) adds s u e = before s u e
  noting_sums s' (Ok n) adds s u e =
      let a = adds n refl in
      elim (replaced h.slots s s' (Some a.new) u a.low (subst (λ t. slot_at t s ≡ Some u) a.slots e)) [
        | inl (same, up) ↦
            let is : a.new ≡ u = cc in
            let prior = before s a.old (subst (λ (k : ℕ). slot_at h.slots k ≡ Some a.old) same a.stood) in
            let sum = ap (λ (w : UpLine). w.noted.sum) is in
            let count = ap (λ (w : UpLine). w.noted.count) is in
            rw (eq-eqb s' s same) (record { adds = omega (arith, a.sum, prior.adds, sum_by-cons (λ (d : ℕ). d) n.delay (noted_since s run)); counts = omega (arith, a.count, prior.counts) })
        | inr (other, was) ↦ rw (ne_eqb s' s other) (before s u was)
      ]

  step : (call : Call) → SumsOfPeriod (leaves call h) (answer call h ∷ run)
  step (raise line speed propagation) =
      raising_sums (slot_of line) line.watch.ends.slots.0 (raising h (slot_of line) (neighbour_in line) speed propagation)
      (λ h' e.
      let r = raised_ok h (slot_of line) (neighbour_in line) speed propagation h' e in
      (raised_line (neighbour_in line) r.0, refl, sym (ap (λ (x : Held). x.slots) r.1)))
  step (drop s) =
      dropping_sums s (dropping h s)
      (λ h' e.
      let r = dropped_ok h s h' e in
      ((stands h.slots s r.0 r.1).low, sym (ap (λ (x : Held). x.slots) r.2)))
  step (note s arrived sent words) = noting_sums s (noting_on h s arrived sent words) (λ n e. added h s arrived sent words n e)
  step close =
      λ s u e.
      let at = place (map (begun (due h.threshold h.slots)) h.slots) s u e in
      empty u (begun_noted (due h.threshold h.slots) h.slots (s - 1) u at.there)
  step report = before

-- no slot of fresh ports is up
blank : (n i : ℕ) → get_or {A = State} (replicate n None) i None ≡ None
blank zero i = refl
blank (suc n) zero = refl
blank (suc n) (suc i) = blank n i

pub sums_of_period : (count root : ℕ) (calls : List Call) → SumsOfPeriod (holds (fresh count root) calls) (answers (fresh count root) calls)
sums_of_period count root [] = λ s u e. let at = place (replicate 8 None) s u e in let none = blank 8 (s - 1) in absurd (cc)
sums_of_period count root (call ∷ earlier) = step (holds (fresh count root) earlier) (answers (fresh count root) earlier) (sums_of_period count root earlier) call
