-- What `find_map` gives: the first answer, or none where there is none.
use Rattle.std.proofs.Common.{◌≡◌, true, ℕ, zero, suc, ◌+◌, ◌<◌, List, [], ◌∷◌, map, length, get_or, IfSome, IsSomeAnd, MatchOption, Some, None, Option, option_map, sym, refl, ap, ◌∙◌, subst, arith}
use Rattle.std.specs.Option.{option_or}
use Rattle.std.specs.Fn.{Called}
use Rattle.std.specs.Iterator.Runs.{Run, SomeRun, EveryRun, ItemsMapTo, AllItemsGive, IsFirstToGive}
use denote.Param.Members.{Mut}
use Rattle.ports.specs.Rows.{first_answer}

-- where an answer comes from: none of the elements gives one, or the first that does gives this one
abbrev pub Comes : {X Z : Type 0} → (X → Option Z) → X → List X → Option Z → Type 0
Comes h d xs None = (k : ℕ) → k < length xs → h (get_or xs k d) ≡ None
Comes h d xs (Some z) = (i : ℕ) × (i < length xs) × (h (get_or xs i d) ≡ Some z) × ((k : ℕ) → k < i → h (get_or xs k d) ≡ None)

module _ {X Z : Type 0} (h : X → Option Z) (d : X) where
  pub first_is : (xs : List X) (o : Option Z) → Comes h d xs o → first_answer h xs ≡ o
  first_is [] None all = refl
  first_is [] (Some z) at = absurd (omega (arith, at.1))
  first_is (x ∷ xs) None all = ap (λ o. option_or o (first_answer h xs)) (all 0 (omega arith)) ∙ first_is xs None (λ k below. all (suc k) (omega arith))
  first_is (x ∷ xs) (Some z) (zero, low, here, before) = ap (λ o. option_or o (first_answer h xs)) here
  first_is (x ∷ xs) (Some z) (suc i, low, here, before) =
      ap (λ o. option_or o (first_answer h xs)) (before 0 (omega arith)) ∙ first_is xs (Some z) (i, omega arith, here, λ k below. before (suc k) (omega arith))

  -- one element more before some that give no answer
  shift : (x : X) (xs : List X) (n : ℕ) → h x ≡ None → ((k : ℕ) → suc k < n → h (get_or xs k d) ≡ None) → (k : ℕ) → k < n → h (get_or (x ∷ xs) k d) ≡ None
  shift x xs n none all zero below = none
  shift x xs n none all (suc k) below = all k below

  -- one element more, which gives no answer
  after : (x : X) (xs : List X) (o : Option Z) → h x ≡ None → Comes h d xs o → Comes h d (x ∷ xs) o
  after x xs None none all = shift x xs (length (x ∷ xs)) none (λ k below. all k (omega arith))
  after x xs (Some z) none (i, low, here, before) = (suc i, omega arith, here, shift x xs (suc i) none (λ k below. before k (omega arith)))

  pub comes_from : (xs : List X) → Comes h d xs (first_answer h xs)
  comes_from [] = λ k below. absurd (omega arith)
  comes_from (x ∷ xs) = go (h x) refl (comes_from xs)
    where
      go : (a : Option Z) → h x ≡ a → Comes h d xs (first_answer h xs) → Comes h d (x ∷ xs) (option_or a (first_answer h xs))
      go None none rest = after x xs (first_answer h xs) none rest
      go (Some z) some rest = (0, omega arith, some, λ k below. absurd (omega arith))

first_map : {X Y Z : Type 0} (h : Y → Option Z) (u : X → Y) (xs : List X) → first_answer (λ x. h (u x)) xs ≡ first_answer h (map u xs)
first_map h u [] = refl
first_map h u (x ∷ xs) = ap (option_or (h (u x))) (first_map h u xs)

there : {A : Type 0} (o : Option A) (P : A → Type 0) → IsSomeAnd o P → IfSome o P
there None P here = absurd here
there (Some a) P here = here

module _ {F A X Y Z V : Type 0} {g : Mut F (A × Unit {0}) (Option V)} (f : F) (v : A → X) (u : X → Y) (w : V → Z) (h : Y → Option Z)
    (computes : (a : A) (o : Option V) (q : F) → Called g f (a, tt) o q → (q ≡ f) × (option_map w o ≡ h (u (v a)))) where
  -- the answer at an item that is there
  answer : (o : Option A) (x : X) (y : Option V) → option_map v o ≡ Some x → IfSome o (λ a. Called g f (a, tt) y f) → h (u x) ≡ option_map w y
  answer None x y e called = absurd (cc)
  answer (Some a) x y e called = let same : v a ≡ x = cc in sym ((computes a y f called).1 ∙ ap (λ z. h (u z)) same)

  module _ {S : Type 0} {steps : S → Option A → S → Type 0} where
    comes : (d : X) (p : Run steps) (xs : List X) (r : Option V) → ItemsMapTo p v xs
        → MatchOption r ((p.whole ≡ true) × AllItemsGive p g f None) (λ y. (i : ℕ) × (i < p.len) × (p.len ≡ i + 1) × IsFirstToGive p g f (Some y) None i)
        → Comes (λ x. h (u x)) d xs (option_map w r)
    comes d p xs None items found =
        let all = found.1 (λ a o q called. (computes a.0 o q called).0) in
        λ k below. answer (p.at k) (get_or xs k d) None (items.2 k d (omega (arith, items.1 found.0))) (all k)
    comes d p xs (Some y) items (i, low, last, gives) =
        let all = gives (λ a o q called. (computes a.0 o q called).0) in (
          i,
          omega (arith, items.0),
          answer (p.at i) (get_or xs i d) (Some y) (items.2 i d low) (there (p.at i) _ all.0),
          λ k below. answer (p.at k) (get_or xs k d) None (items.2 k d (omega arith)) (there (p.at k) _ (all.1 k below)),
        )

    -- what `runs` of a source and of `find_map` say together
    pub find_map_is : {s : S} (d : X) (rest : S → List X) (xs : List X) (r : Option V) → rest s ≡ xs → EveryRun steps (λ p. ItemsMapTo p v (rest p.from))
        → SomeRun steps s (λ p. MatchOption r ((p.whole ≡ true) × AllItemsGive p g f None) (λ y. (i : ℕ) × (i < p.len) × (p.len ≡ i + 1) × IsFirstToGive p g f (Some y) None i))
        → option_map w r ≡ first_answer h (map u xs)
    find_map_is d rest xs r e every (p, begins, found) =
        let items : ItemsMapTo p v xs = subst (λ ys. ItemsMapTo p v ys) (ap rest begins ∙ e) (every p p.seen) in
        sym (first_is (λ x. h (u x)) d xs (option_map w r) (comes d p xs r items found)) ∙ first_map h u xs
