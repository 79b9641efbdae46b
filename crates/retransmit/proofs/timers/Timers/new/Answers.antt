use Rattle.std.proofs.Common.{◌≡◌, ◌⊎◌, ℕ, List, [], get_or, replicate, ap, ◌∙◌, inl, inr, arith}
use Rattle.std.proofs.lemmas.List.{get_or-replicate, get_or_past, length-replicate}
use Rattle.std.proofs.lemmas.Bool.{cases_lt}
use Rattle.retransmit.proofs.timers.Timers.new.Goals as goal

-- what of a list of one element, or past its end
same : {X : Type 0} (n k : ℕ) (x d : X) → (get_or (replicate n x) k d ≡ x) ⊎ (get_or (replicate n x) k d ≡ d)
same n k x d =
    elim (cases_lt k n) [
      | inl h ↦ inl (get_or-replicate n k x d h)
      | inr h ↦ inr (get_or_past (replicate n x) k d (omega (arith, length-replicate n x)))
    ]

zeros : (n m k j : ℕ) → get_or (get_or (replicate n (replicate {A = ℕ} m 0)) k []) j 0 ≡ 0
zeros n m k j =
    let row : List ℕ = replicate m 0 in
    let here : get_or row j 0 ≡ 0 = elim (same m j 0 0) [ inl e ↦ e | inr e ↦ e ] in
    elim (same n k row []) [
      | inl e ↦ ap (λ (r : List ℕ). get_or r j 0) e ∙ here
      | inr e ↦ ap (λ (r : List ℕ). get_or r j 0) e
    ]

pub invariant_of-result-clause-low : goal.invariant_of-result-clause-low
invariant_of-result-clause-low c = λ k j. omega (arith, zeros 8 64 k j)
