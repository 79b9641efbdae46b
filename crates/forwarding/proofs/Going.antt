-- What holds of every course. Assumes nothing.
use Rattle.std.proofs.Common.{◌≡◌, ℕ, zero, suc, ◌-◌, ◌≤◌, min, List, [], ◌∷◌, length, sym, refl, subst, inl, inr, arith}
use Rattle.std.proofs.lemmas.Bool.{cases_eq}
use Rattle.spf.specs.declared.route.Route.{Route}
use Rattle.forwarding.specs.declared.walk.End.{End}
use Rattle.forwarding.specs.declared.walk.End.TheVariants.{Arrived, Loop, Lost}
use Rattle.forwarding.specs.Courses.{Course, hops_of, ends_at, walk_from, walk}
use Rattle.forwarding.specs.Going.{Hops, last_of, Ends, Goes, Going}
use Rattle.forwarding.proofs.Courses.{before, arrived, looped, lost, onwards}

module _ (hop : ℕ → ℕ) (d : ℕ) where
  ends : (n a : ℕ) (how : End) → Ends hop d a n how → Goes hop d n a (ends_at a how)
  ends n a how e = record { begins = refl; hops = tt; few = omega arith; ends = subst (λ (x : ℕ). Ends hop d a x how) (omega arith) e }

  on : (n a h : ℕ) (w : Course) → (a ≡ d → ⊥) → hop a ≡ h → 1 ≤ h → Goes hop d n h w → Goes hop d (suc n) a (before (a ∷ []) w)
  on n a h w ne e some goes =
      let is : w.nodes ≡ h ∷ hops_of w = goes.begins in
      let left : n - length (hops_of w) ≡ suc n - suc (length (hops_of w)) = omega arith in
      let P : List ℕ → Type 0 = λ xs. Hops hop d a xs × (length xs ≤ suc n) × Ends hop d (last_of a xs) (suc n - length xs) w.end in
      let all : P w.nodes = subst P (sym is)
      ((ne, e, some, goes.hops), omega (arith, goes.few), subst (λ (x : ℕ). Ends hop d (last_of h (hops_of w)) x w.end) left goes.ends) in
      record { begins = refl; hops = all.0; few = all.1; ends = all.2 }

  rest : {n a : ℕ} {w : Course} → walk_from hop d n a ≡ w → Goes hop d n a w → Goes hop d n a (walk_from hop d n a)
  rest {n} {a} e g = subst (Goes hop d n a) (sym e) g

  pub goes : (n a : ℕ) → Goes hop d n a (walk_from hop d n a)
  goes zero a = elim (cases_eq a d) [
    | inl e ↦ rest (arrived hop d zero a e) (ends zero a Arrived e)
    | inr ne ↦ rest (looped hop d zero a ne refl) (ends zero a Loop (ne, refl))
  ]
  goes (suc n) a = elim (cases_eq a d) [
    | inl e ↦ rest (arrived hop d (suc n) a e) (ends (suc n) a Arrived e)
    | inr ne ↦ elim (cases_eq (hop a) 0) [
      | inl z ↦ rest (lost hop d (suc n) a ne (omega arith) z) (ends (suc n) a Lost (ne, omega arith, z))
      | inr z ↦
          let some : 1 ≤ hop a = omega arith in
          rest (onwards hop d n a (hop a) ne refl some) (on n a (hop a) (walk_from hop d n (hop a)) ne refl some (goes n (hop a)))
    ]
  ]

pub going : (shows : ℕ → ℕ → Route) (count a d : ℕ) → Going shows count a d (walk shows count a d)
going shows count a d = goes (λ x. (shows x d).hop) d (min count 64) a
