-- The course of a record over any list of messages. Assumes nothing.
use Rattle.std.proofs.Common.{◌≡◌, suc, ◌+◌, ◌<◌, Bool, true, false, nat_le, List, [], ◌∷◌, ◌++◌, length, take, replicate, sym, refl, ap, ◌∙◌, arith, lit<}
use Rattle.std.proofs.lemmas.List.{append-nil, append_assoc}
use Rattle.std.proofs.lemmas.Bool.{ne_eqb, eq-eqb, both_ways}
use Rattle.line.specs.Messages.{misses, last, row, failing, steady, clear}
use Rattle.line.specs.Windows.{pushed, held}
use Rattle.line.specs.Moves.{State, down, ready, up, Shown, shown, keeping, moved, moved_by, after_messages}
use Rattle.line.specs.Courses.{Never, FirstAtLast, since_ready, Since, Leads, Course, Counts, CountsSince}
use Rattle.line.specs.declared.messages.Message.{Message}
use Rattle.line.specs.declared.messages.Message.TheVariants.{Heard, Missed}
use Rattle.line.specs.declared.states.Record.{Record}
use Rattle.line.specs.declared.states.Record.TheVariants as record_of
use Rattle.line.specs.declared.window.Window.{Window}
use Rattle.line.proofs.Masks.{length_held, ones_held}
use Rattle.line.proofs.Lasts.{last_last, last_all, last_many, misses_clear, row_heard, row_missed, row_replicate, steady_row, row_steady}

-- the first message of some moves over to those before
step_over : (h : List Message) (m : Message) (ms : List Message) → (h ++ m ∷ []) ++ ms ≡ h ++ m ∷ ms
step_over h m ms = append_assoc h (m ∷ []) ms

-- ---- what a test does along a list

module _ (test : List Message → Bool) (h : List Message) (m : Message) (ms : List Message) where
  never_now : Never test h (m ∷ ms) → test (h ++ m ∷ []) ≡ false
  never_now never = never 1 (lit< tt) (omega arith)

  never_later : Never test h (m ∷ ms) → Never test (h ++ m ∷ []) ms
  never_later never k low high = ap test (step_over h m (take k ms)) ∙ never (suc k) (omega arith) (omega arith)

  first_now : FirstAtLast test h (m ∷ ms) → 0 < length ms → test (h ++ m ∷ []) ≡ false
  first_now first more = first.2 1 (lit< tt) (omega arith)

  first_later : FirstAtLast test h (m ∷ ms) → 0 < length ms → FirstAtLast test (h ++ m ∷ []) ms
  first_later first more = (
    more,
    ap test (step_over h m ms) ∙ first.1,
    λ k low high. ap test (step_over h m (take k ms)) ∙ first.2 (suc k) (omega arith) (omega arith),
  )

-- ---- Ready and Up

-- the last 20 and the test see the messages since Ready
since_more : (h : List Message) (m : Message) → last 20 (since_ready h ++ m ∷ []) ≡ since_ready (h ++ m ∷ [])
since_more h m = last_last 20 (clear ++ h) (m ∷ []) ∙ ap (last 20) (append_assoc clear h (m ∷ []))

failing_since : (h : List Message) (m : Message) → failing (since_ready h ++ m ∷ []) ≡ failing (h ++ m ∷ [])
failing_since h m = ap (λ (ms : List Message). nat_le 3 (misses ms)) (since_more h m) ∙ ap (nat_le 3) (misses_clear 20 (h ++ m ∷ []))

module _ (in-state : List Message → State) (steps : (w : List Message) (m : Message) → moved (in-state w) m ≡ keeping in-state (pushed w m)) where
  keeps : (h : List Message) (m : Message) → failing (h ++ m ∷ []) ≡ false → moved (in-state (since_ready h)) m ≡ in-state (since_ready (h ++ m ∷ []))
  keeps h m e = steps (since_ready h) m ∙ rw (failing_since h m ∙ e) (ap in-state (since_more h m))

  breaks : (h : List Message) (m : Message) → failing (h ++ m ∷ []) ≡ true → moved (in-state (since_ready h)) m ≡ down 0
  breaks h m e = steps (since_ready h) m ∙ rw (failing_since h m ∙ e)

  stays : (h ms : List Message) → Never failing h ms → moved_by (in-state (since_ready h)) ms ≡ in-state (since_ready (h ++ ms))
  stays h [] never = rw append-nil
  stays h (m ∷ ms) never = rw (keeps h m (never_now failing h m ms never), ← step_over h m ms) (stays (h ++ m ∷ []) ms (never_later failing h m ms never))

  falls : (h ms : List Message) → FirstAtLast failing h ms → moved_by (in-state (since_ready h)) ms ≡ down 0
  falls h [] first = absurd (omega (arith, first.0))
  falls h (m ∷ []) first = breaks h m first.1
  falls h (m ∷ n ∷ ms) first =
      let more : 0 < length (n ∷ ms) = omega arith in
      rw (keeps h m (first_now failing h m (n ∷ ms) first more)) (falls (h ++ m ∷ []) (n ∷ ms) (first_later failing h m (n ∷ ms) first more))

-- ---- Down

-- a line that is not yet steady counts on
pub counts_on : (h : List Message) (m : Message) → row h < 30 → steady (h ++ m ∷ []) ≡ false → (moved (down (row h)) m ≡ down (row (h ++ m ∷ []))) × (row (h ++ m ∷ []) < 30)
counts_on h Missed short e = (ap down (sym (row_missed h)), omega (arith, row_missed h))
counts_on h Heard short e =
    let one = row_heard h in
    let not30 : row h + 1 ≡ 30 → ⊥ = λ q. both_ways (steady (h ++ Heard ∷ [])) e (row_steady (h ++ Heard ∷ []) (omega arith)) in
    (rw (ne_eqb (row h + 1) 30 not30) (ap down (sym one)), omega arith)

-- and is Ready as soon as it is
pub ready_at : (h : List Message) (m : Message) → row h < 30 → steady (h ++ m ∷ []) ≡ true → moved (down (row h)) m ≡ ready clear
ready_at h Missed short e = absurd (omega (arith, steady_row (h ++ Missed ∷ []) e, row_missed h))
ready_at h Heard short e =
    let full : row h + 1 ≡ 30 = omega (arith, steady_row (h ++ Heard ∷ []) e, row_heard h) in
    rw (eq-eqb (row h + 1) 30 full)

waits : (h ms : List Message) → row h < 30 → Never steady h ms → moved_by (down (row h)) ms ≡ down (row (h ++ ms))
waits h [] short never = rw append-nil
waits h (m ∷ ms) short never =
    let next = counts_on h m short (never_now steady h m ms never) in
    rw (next.0, ← step_over h m ms) (waits (h ++ m ∷ []) ms next.1 (never_later steady h m ms never))

rises : (h ms : List Message) → row h < 30 → FirstAtLast steady h ms → moved_by (down (row h)) ms ≡ ready clear
rises h [] short first = absurd (omega (arith, first.0))
rises h (m ∷ []) short first = ready_at h m short first.1
rises h (m ∷ n ∷ ms) short first =
    let more : 0 < length (n ∷ ms) = omega arith in
    let next = counts_on h m short (first_now steady h m (n ∷ ms) first more) in
    rw next.0 (rises (h ++ m ∷ []) (n ∷ ms) next.1 (first_later steady h m (n ∷ ms) first more))

-- ---- all together

-- In Down fewer than 30 were heard in a row.
abbrev Short : State → Type 0
Short (down n) = n < 30
Short (ready w) = Unit {0}
Short (up w) = Unit {0}

short : (r : Record) → Short (shown r).state
short (record_of.Down d) = d.short
short (record_of.Ready d) = tt
short (record_of.Up d) = tt

leads : (s : State) (ms : List Message) → Short s → (h : List Message) → Since h s → Leads h s ms (moved_by s ms)
leads (down n) ms less h e =
    let same : n ≡ row h = cc in
    let below : row h < 30 = omega arith in
    rw same (waits h ms below, rises h ms below)
leads (ready w) ms less h e =
    let same : w ≡ since_ready h = cc in
    rw same (stays ready (λ _ _. refl) h ms, falls ready (λ _ _. refl) h ms)
leads (up w) ms less h e =
    let same : w ≡ since_ready h = cc in
    rw same (stays up (λ _ _. refl) h ms, falls up (λ _ _. refl) h ms)

-- what a window holds may be what came since Ready
window_begun : (w : Window) → held w ≡ since_ready (held w)
window_begun w =
    let size = length_held 20 w.missed in
    let many = last_many 20 clear (held w) refl in
    grind (arith, last_all)

begun : (r : Record) → (h : List Message) × Since h (shown r).state
begun (record_of.Down d) = (replicate d.heard Heard, ap down (sym (row_replicate d.heard)))
begun (record_of.Ready d) = (held d.watch.window, ap ready (window_begun d.watch.window))
begun (record_of.Up d) = (held d.watch.window, ap up (window_begun d.watch.window))

pub course : (r : Record) (ms : List Message) (s : Shown) → s ≡ after_messages (shown r) ms → Course (shown r).state ms s.state
course r ms s e = rw e (begun r, leads (shown r).state ms (short r))

-- ---- the mask

mask_counts : (w : Window) → CountsSince w.missed (held w)
mask_counts w = λ h e. ones_held 20 w.missed w.narrow ∙ ap misses e ∙ misses_clear 20 h

pub counts : (r : Record) → Counts r
counts (record_of.Down d) = tt
counts (record_of.Ready d) = mask_counts d.watch.window
counts (record_of.Up d) = mask_counts d.watch.window
