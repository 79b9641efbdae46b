-- What `map` of an array gives, where the closure computes a function and stays as it was.
use Rattle.std.proofs.Common.{◌≡◌, ℕ, zero, suc, ◌+◌, ◌<◌, ◌≤◌, List, [], ◌∷◌, map, length, get_or, sym, refl, ap, ◌∙◌, subst, inl, inr, arith}
use Rattle.std.proofs.lemmas.Bool.{cases_eq}
use Rattle.std.proofs.lemmas.List.{get_or-map, length-map, same_lists}
use Rattle.std.specs.Array.{IsMapOf, MapsFrom}
use Rattle.std.specs.Fn.{Called}
use denote.Param.Members.{Mut}

module _ {F A B C D : Type 0} {g : Mut F (A × Unit {0}) B} (f : F) (u : A → C) (v : B → D) (h : C → D)
    (computes : (x : A) (y : B) (q : F) → Called g f (x, tt) y q → (q ≡ f) × (v y ≡ h (u x))) where
  at : (xs : List A) (ys : List B) (n i : ℕ) → MapsFrom g f xs ys i n → (k : ℕ) → i ≤ k → k < i + n → (d : A) (e : B) → v (get_or ys k e) ≡ h (u (get_or xs k d))
  at xs ys zero i m k low high d e = absurd (omega arith)
  at xs ys (suc n) i (q, x, y, x-at, y-at, called, rest) k low high d e =
      let is = computes x y q called in
      elim (cases_eq k i) [
        | inl same ↦ rw same (ap v (y-at.1 e) ∙ is.1 ∙ sym (ap (λ a. h (u a)) (x-at.1 d)))
        | inr other ↦ at xs ys n (i + 1) (subst (λ p. MapsFrom g p xs ys (i + 1) n) is.0 rest) k (omega arith) (omega arith) d e
      ]

  pub map_is : (xs : List A) (ys : List B) (n : ℕ) → IsMapOf g f xs ys n → length xs ≡ n → map v ys ≡ map h (map u xs)
  map_is [] [] n m long = refl
  map_is [] (y ∷ ys) n m long = absurd (omega (arith, m.long))
  map_is (x ∷ xs) [] n m long = absurd (omega (arith, m.long))
  map_is (x ∷ xs) (y ∷ ys) n m long =
      let before = x ∷ xs in
      let after = y ∷ ys in
      same_lists _ _ (simp length-map (m.long ∙ sym long))
      (λ k d below.
      let inside : k < n = omega (arith, length-map after v, m.long) in
      get_or-map v after k y d (omega (arith, m.long))
      ∙ at before after n 0 m.each k (omega arith) (omega arith) x y
      ∙ sym (get_or-map h (map u before) k (u x) d (omega (arith, length-map before u, long)) ∙ ap h (get_or-map u before k x (u x) (omega (arith, long)))))
