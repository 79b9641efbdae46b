-- The threshold tells the closings since the last own report; so they are five at most.
use Rattle.std.proofs.Common.{◌≡◌, ℕ, ◌+◌, ◌*◌, ◌≤◌, Bool, true, false, if◌then◌else◌, List, [], ◌∷◌, ◌++◌, Ok, Err, Result, sym, refl, ap, arith}
use Rattle.std.proofs.lemmas.Bool.Decides.{nat_tests}
use Rattle.slots.specs.declared.refusal.Refusal.{Refusal}
use Rattle.slots.specs.Refusals.{on_ok, kept}
use Rattle.slots.specs.Thresholds.{first, after_period}
use Rattle.ports.specs.Held.{Held, fresh}
use Rattle.ports.specs.Calls.{slot_of, neighbour_in, raising, dropping, Noting, noting_on, leaves_of, delay_in}
use Rattle.ports.specs.Closing.{due}
use Rattle.ports_laws.specs.Runs.{Call, raise, drop, note, close, report, leaves, Answer, raised, dropped, noted, told, answer, holds, answers}
use Rattle.ports_laws.specs.Laws.{is_own, closings, Quiet, SixthReports, closings_since, ThresholdKept}
use Rattle.ports_laws.proofs.Steps.{raised_ok, dropped_ok, noted_ok}

module _ (h : Held) (run : List Answer) (before : ThresholdKept h run) where
  -- a call that makes an own report unless it is refused
  own : (a : Answer) → is_own a ≡ true → (r : Result Held Refusal) → ((h' : Held) → r ≡ Ok h' → h'.threshold ≡ first)
      → ThresholdKept (kept h r) (told (λ _. a) r ∷ run)
  own a made (Ok h') back = rw made (omega (arith, back h' refl))
  own a made (Err refused) back = omega (arith, before)

  noting : (s : ℕ) (r : Result Noting Refusal) → ((n : Noting) → r ≡ Ok n → n.leaves.threshold ≡ h.threshold)
      → ThresholdKept (kept h (on_ok leaves_of r)) (told (λ n. noted s (delay_in n)) r ∷ run)
  noting s (Ok n) same = omega (arith, before, same n refl)
  noting s (Err refused) same = omega (arith, before)

  closing : (b : Bool) → (b ≡ false → h.threshold ≡ 0 → ⊥) → after_period b h.threshold + 128 * (if b then 0 else 1 + closings_since run) ≡ first
  closing true some = omega arith
  closing false some = let positive = some refl in omega (arith, before)

  step : (call : Call) → ThresholdKept (leaves call h) (answer call h ∷ run)
  step (raise line speed propagation) =
      own (raised (slot_of line)) refl (raising h (slot_of line) (neighbour_in line) speed propagation)
      (λ h' e. sym (ap (λ (x : Held). x.threshold) (raised_ok h (slot_of line) (neighbour_in line) speed propagation h' e).1))
  step (drop s) = own (dropped s) refl (dropping h s) (λ h' e. sym (ap (λ (x : Held). x.threshold) (dropped_ok h s h' e).2))
  step (note s arrived sent words) =
      noting s (noting_on h s arrived sent words) (λ n e. ap (λ (x : Held). x.threshold) (noted_ok h s arrived sent words n e).leaves)
  step close =
      closing (due h.threshold h.slots) (λ e z. grind (arith, nat_tests))
  step report = omega arith

pub threshold_kept : (count root : ℕ) (calls : List Call) → ThresholdKept (holds (fresh count root) calls) (answers (fresh count root) calls)
threshold_kept count root [] = omega arith
threshold_kept count root (call ∷ earlier) = step (holds (fresh count root) earlier) (answers (fresh count root) earlier) (threshold_kept count root earlier) call

-- what a run answered before some later answers is what an earlier run answered
earlier_run : (h : Held) (calls : List Call) (later rest : List Answer) → answers h calls ≡ later ++ rest → (before : List Call) × (answers h before ≡ rest)
earlier_run h calls [] rest e = (calls, e)
earlier_run h [] (a ∷ later) rest e = absurd (cc)
earlier_run h (call ∷ calls) (a ∷ later) rest e =
    let tail : answers h calls ≡ later ++ rest = cc in
    earlier_run h calls later rest tail

-- closings without an own report count since the last one
counted : (stretch earlier : List Answer) → Quiet stretch → closings stretch ≤ closings_since (stretch ++ earlier)
counted [] earlier quiet = omega arith
counted (a ∷ stretch) earlier quiet =
    let more = counted stretch earlier quiet.1 in rw quiet.0 (omega arith)

pub sixth_reports : (count root : ℕ) (calls : List Call) → SixthReports (answers (fresh count root) calls)
sixth_reports count root calls later stretch earlier e quiet =
    let run = earlier_run (fresh count root) calls later (stretch ++ earlier) e in
    let kept' = threshold_kept count root run.0 in
    let here = ap closings_since run.1 in
    omega (arith, counted stretch earlier quiet)
