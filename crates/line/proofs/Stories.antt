-- The whole story of a record from Down on. Assumes nothing.
use Rattle.std.proofs.Common.{◌≡◌, ℕ, ◌+◌, ◌-◌, ◌<◌, ◌≤◌, Bool, true, false, nat_le, List, [], ◌∷◌, ◌++◌, length, take, replicate, sym, refl, ap, ◌∙◌, ⊎_elim, arith}
use Rattle.std.proofs.lemmas.List.{append-nil, append_assoc, length_push, length-drop, take_all, take-append-le}
use Rattle.std.proofs.lemmas.Bool.{cases_lt, cases_Bool, leb-true, leb-false, both_ways}
use Rattle.line.specs.Messages.{misses, last, row, failing, steady, clear}
use Rattle.line.specs.Moves.{State, down, ready, up, Shown, shown, moved, moved_by, after_messages}
use Rattle.line.specs.Courses.{Good, Story, Whole}
use Rattle.line.specs.declared.messages.Message.{Message}
use Rattle.line.specs.declared.messages.Message.TheVariants.{Heard, Missed}
use Rattle.line.specs.declared.states.Record.{Record}
use Rattle.line.proofs.Lasts.{misses_push, misses_drop, last_last, row_missed, row_within, row_last, steady_row, row_steady}
use Rattle.line.proofs.Phases.{counts_on, ready_at}

-- ---- thirty heard in a row, and the last 20

all_heard : (ms : List Message) → misses ms ≡ 0 → ms ≡ replicate (length ms) Heard
all_heard [] e = refl
all_heard (Heard ∷ ms) e = ap (λ (xs : List Message). Heard ∷ xs) (all_heard ms e)
all_heard (Missed ∷ ms) e = absurd (omega (arith, e))

steady_none : (ms : List Message) → steady ms ≡ true → misses (last 20 ms) ≡ 0
steady_none ms e = row_last 20 ms (omega (arith, steady_row ms e))

steady_clear : (ms : List Message) → steady ms ≡ true → clear ≡ last 20 ms
steady_clear ms e =
    let size : length (last 20 ms) ≡ 20 = omega (arith, length-drop (length ms - 20) ms, row_within ms, steady_row ms e) in
    sym (all_heard (last 20 ms) (steady_none ms e) ∙ ap (λ (n : ℕ). replicate n Heard) size)

steady_sound : (ms : List Message) → steady ms ≡ true → failing ms ≡ false
steady_sound ms e = ap (nat_le 3) (steady_none ms e)

-- the message at which a line fails was missed
fails_missed : (g : List Message) (m : Message) → failing g ≡ false → failing (g ++ m ∷ []) ≡ true → 0 ≡ row (g ++ m ∷ [])
fails_missed g Missed was now = sym (row_missed g)
fails_missed g Heard was now =
    let w = last 20 g ++ Heard ∷ [] in
    let same : misses (last 20 w) ≡ misses (last 20 (g ++ Heard ∷ [])) = ap misses (last_last 20 g (Heard ∷ [])) in
    let less = misses_drop (length w - 20) w in
    let few = leb-false 3 (misses (last 20 g)) was in
    let many = leb-true 3 (misses (last 20 (g ++ Heard ∷ []))) now in
    absurd (omega (arith, misses_push (last 20 g) Heard))

-- ---- a good line

whole_take : (test : List Message → Bool) (g : List Message) (j : ℕ) → length g ≤ j → test (take j g) ≡ test g
whole_take test g j h = ap test (take_all j g h)

good_now : (g : List Message) → steady g ≡ true → Good g
good_now g e = (
  length g,
  omega arith,
  whole_take steady g (length g) (omega arith) ∙ e,
  λ j low high. whole_take failing g j low ∙ steady_sound g e,
)

bad_now : (g : List Message) → failing g ≡ true → Good g → ⊥
bad_now g e good = both_ways (failing g) (sym (whole_take failing g (length g) (omega arith)) ∙ good.3 (length g) good.1 (omega arith)) e

bad_short : (g : List Message) → (Good g → ⊥) → row g < 30
bad_short g bad = ⊎_elim (λ h. h) (λ h. absurd (bad (good_now g (row_steady g h)))) (cases_lt (row g) 30)

good_last : (g : List Message) → Good g → failing g ≡ false
good_last g good = sym (whole_take failing g (length g) (omega arith)) ∙ good.3 (length g) good.1 (omega arith)

module _ (g : List Message) (m : Message) where
  one_more : length (g ++ m ∷ []) ≡ length g + 1
  one_more = length_push g m

  part : (test : List Message → Bool) (j : ℕ) → j ≤ length g → test (take j (g ++ m ∷ [])) ≡ test (take j g)
  part test j h = ap test (take-append-le j g (m ∷ []) h)

  good_more : Good g → failing (g ++ m ∷ []) ≡ false → Good (g ++ m ∷ [])
  good_more good e = (
    good.0,
    omega (arith, good.1, one_more),
    part steady good.0 good.1 ∙ good.2,
    λ j low high. ⊎_elim
        (λ over. whole_take failing (g ++ m ∷ []) j (omega (arith, one_more)) ∙ e)
        (λ h. part failing j h ∙ good.3 j low h)
        (cases_lt (length g) j),
  )

  bad_more : (Good g → ⊥) → steady (g ++ m ∷ []) ≡ false → Good (g ++ m ∷ []) → ⊥
  bad_more bad e good = ⊎_elim
      (λ over. both_ways (steady (g ++ m ∷ [])) e (sym (whole_take steady (g ++ m ∷ []) good.0 (omega (arith, one_more))) ∙ good.2))
      (λ h. bad (good.0, h, sym (part steady good.0 h) ∙ good.2, λ j low high. sym (part failing j high) ∙ good.3 j low (omega (arith, one_more))))
      (cases_lt (length g) good.0)

-- ---- one message more

story_down : (g : List Message) (m : Message) → (Good g → ⊥) → Story (g ++ m ∷ []) (moved (down (row g)) m)
story_down g m bad =
    let more = g ++ m ∷ [] in
    ⊎_elim
    (λ e. rw (ready_at g m (bad_short g bad) e) (steady_clear more e, good_now more e))
    (λ e. rw ((counts_on g m (bad_short g bad) e).0) (refl, bad_more g m bad e))
    (cases_Bool (steady more))

story_ready : (g : List Message) (m : Message) → Good g → Story (g ++ m ∷ []) (moved (ready (last 20 g)) m)
story_ready g m good =
    let more = g ++ m ∷ [] in
    let w = last 20 g ++ m ∷ [] in
    let same : last 20 w ≡ last 20 more = last_last 20 g (m ∷ []) in
    let sees : failing w ≡ failing more = ap (λ (ms : List Message). nat_le 3 (misses ms)) same in
    ⊎_elim
    (λ (e : failing more ≡ true). rw (sees ∙ e) (fails_missed g m (good_last g good) e, bad_now more e))
    (λ (e : failing more ≡ false). rw (sees ∙ e) (same, good_more g m good e))
    (cases_Bool (failing more))

story_more : (g : List Message) (m : Message) (s : State) → Story g s → Story (g ++ m ∷ []) (moved s m)
story_more g m (down n) t = rw t.0 (story_down g m t.1)
story_more g m (ready w) t = rw t.0 (story_ready g m t.1)
story_more g m (up w) t = absurd t

-- ---- all the messages

story_on : (g ms : List Message) (s : State) → Story g s → Story (g ++ ms) (moved_by s ms)
story_on g [] s t = rw append-nil t
story_on g (m ∷ ms) s t = rw (append_assoc g (m ∷ []) ms) at (story_on (g ++ m ∷ []) ms (moved s m) (story_more g m s t))

nothing_good : Good [] → ⊥
nothing_good good = omega (arith, steady_row (take good.0 []) good.2, ap row (take_all {A = Message} good.0 [] (omega arith)))

pub whole : (r : Record) (ms : List Message) (s : Shown) → s ≡ after_messages (shown r) ms → Whole (shown r).state ms s.state
whole r ms s e start =
    rw (e, start) (story_on [] ms (down 0) (refl, nothing_good))
