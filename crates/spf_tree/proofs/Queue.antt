-- The list of reached nodes, as nodes are added and change places. Assumes nothing.
use Rattle.std.proofs.Common.{◌≡◌, ℕ, zero, suc, ◌+◌, ◌<◌, ◌≤◌, Bool, true, false, ◌||◌, eqb, ◌⊎◌, List, length, get_or, set, sym, refl, ap, ◌∙◌, subst, inl, inr, arith, get_or-set_other, get_or-set_same}
use mathlib.Core.Path.{subst⁻¹}
use Rattle.std.proofs.lemmas.Bool.{both_ways, cases_eq, eq-eqb, eqb-true, or_cases, or_left, or_right}
use Rattle.spf_laws.proofs.Passing.{passing_le, passing_lt, passing_few}
use Rattle.spf_tree.specs.Queues.{Queued, listed, ChangedOver}

-- over variables, since a count up to 64 would unfold
chain : {x y z : ℕ} → x ≤ y → y ≤ z → x ≤ z
chain p q = omega arith

one_more : {x y z : ℕ} → x ≤ y → y < z → x + 1 ≤ z
one_more p q = omega arith

below : {x y z : ℕ} → x ≤ y → y < z → z ≤ 64 → x < 64
below p q s = omega arith

-- what it is to be listed
pub listed_at : (nodes : List ℕ) (n i : ℕ) → i < n → listed nodes n (get_or nodes i 0) ≡ true
listed_at nodes zero i h = absurd (omega arith)
listed_at nodes (suc n) i h = elim (cases_eq i n) [
  | inl e ↦ or_left (eqb (get_or nodes n 0) (get_or nodes i 0)) (listed nodes n (get_or nodes i 0)) (eq-eqb (get_or nodes n 0) (get_or nodes i 0) (ap (λ (x : ℕ). get_or nodes x 0) (sym e)))
  | inr o ↦ or_right (eqb (get_or nodes n 0) (get_or nodes i 0)) (listed nodes n (get_or nodes i 0)) (listed_at nodes n i (omega arith))
]

pub listed_where : (nodes : List ℕ) (n v : ℕ) → listed nodes n v ≡ true → (i : ℕ) × (i < n) × (get_or nodes i 0 ≡ v)
listed_where nodes zero v e = let z : ◌≡◌ {A = ℕ} 0 1 = cc in absurd (omega arith)
listed_where nodes (suc n) v e = elim (or_cases (eqb (get_or nodes n 0) v) (listed nodes n v) e) [
  | inl x ↦ (n, omega arith, eqb-true (get_or nodes n 0) v x)
  | inr x ↦ let (i, h, y) = listed_where nodes n v x in (i, omega arith, y)
]

pub listed_same : (nodes nodes' : List ℕ) (n v : ℕ) → ((i : ℕ) → i < n → get_or nodes' i 0 ≡ get_or nodes i 0) → listed nodes' n v ≡ listed nodes n v
listed_same nodes nodes' zero v e = refl
listed_same nodes nodes' (suc n) v e =
    ap (λ (x : ℕ). eqb x v || listed nodes' n v) (e n (omega arith)) ∙ ap (λ (b : Bool). eqb (get_or nodes n 0) v || b) (listed_same nodes nodes' n v (λ i h. e i (omega arith)))

listed_of : (nodes : List ℕ) (n v i : ℕ) → i < n → get_or nodes i 0 ≡ v → listed nodes n v ≡ true
listed_of nodes n v i h e = subst (λ (x : ℕ). listed nodes n x ≡ true) e (listed_at nodes n i h)

-- where a node that passes stands
pub placed : (p : ℕ → Bool) (nodes : List ℕ) (reached v : ℕ) → Queued p nodes reached → 1 ≤ v → v ≤ 64 → p v ≡ true → (i : ℕ) × (i < reached) × (get_or nodes i 0 ≡ v)
placed p nodes reached v q low high y = listed_where nodes reached v (q.every v low high y)

pub queue_same : (p p' : ℕ → Bool) (nodes : List ℕ) (reached : ℕ) → ((v : ℕ) → 1 ≤ v → v ≤ 64 → p' v ≡ p v) → Queued p nodes reached → Queued p' nodes reached
queue_same p p' nodes reached e q = record {
  few = chain q.few (passing_le p p' 64 (λ w low high y. e w low high ∙ y));
  once = q.once;
  low = q.low;
  high = q.high;
  known = λ i h. e (get_or nodes i 0) (q.low i h) (q.high i h) ∙ q.known i h;
  every = λ v low high y. q.every v low high (sym (e v low high) ∙ y);
}

-- where a node is not yet listed, there is room for it
pub room : (p : ℕ → Bool) (nodes : List ℕ) (reached w : ℕ) → 1 ≤ w → w ≤ 64 → p w ≡ false → Queued p nodes reached → reached < 64
room p nodes reached w low high z q = below q.few (passing_lt p (λ (v : ℕ). true) 64 (λ _ _ _ _. refl) w low high z refl) (passing_few (λ (v : ℕ). true) 64)

module _ (p p' : ℕ → Bool) (nodes : List ℕ) (reached w : ℕ) (low : 1 ≤ w) (high : w ≤ 64) (fresh : p w ≡ false) (now : p' w ≡ true)
    (others : (v : ℕ) → (v ≡ w → ⊥) → p' v ≡ p v) (long : reached < length nodes) (q : Queued p nodes reached) where
  here : get_or (set nodes reached w) reached 0 ≡ w
  here = get_or-set_same nodes reached w 0 long

  before : (i : ℕ) → i < reached → get_or (set nodes reached w) i 0 ≡ get_or nodes i 0
  before i h = get_or-set_other nodes reached i w 0 (λ e. omega arith)

  -- none of the nodes before is w
  apart : (i : ℕ) → i < reached → get_or nodes i 0 ≡ w → ⊥
  apart i h e = both_ways (p w) fresh (subst (λ (x : ℕ). p x ≡ true) e (q.known i h))

  -- what holds of w and of the nodes before holds of all
  each : (P : ℕ → Type 0) → P w → ((i : ℕ) → i < reached → P (get_or nodes i 0)) → (i : ℕ) → i < reached + 1 → P (get_or (set nodes reached w) i 0)
  each P pw old i h = elim (cases_eq i reached) [
    | inl e ↦ subst⁻¹ P (ap (λ (x : ℕ). get_or (set nodes reached w) x 0) e ∙ here) pw
    | inr n ↦ subst⁻¹ P (before i (omega arith)) (old i (omega arith))
  ]

  passes_still : (v : ℕ) → p v ≡ true → p' v ≡ true
  passes_still v y = others v (λ e. both_ways (p w) fresh (subst (λ (x : ℕ). p x ≡ true) e y)) ∙ y

  once' : (i j : ℕ) → i < reached + 1 → j < reached + 1 → get_or (set nodes reached w) i 0 ≡ get_or (set nodes reached w) j 0 → i ≡ j
  once' i j hi hj e = elim (cases_eq i reached) [
    | inl a ↦ elim (cases_eq j reached) [
      | inl b ↦ a ∙ sym b
      | inr b ↦ absurd (apart j (omega arith) (sym (before j (omega arith)) ∙ sym e ∙ ap (λ (x : ℕ). get_or (set nodes reached w) x 0) a ∙ here))
    ]
    | inr a ↦ elim (cases_eq j reached) [
      | inl b ↦ absurd (apart i (omega arith) (sym (before i (omega arith)) ∙ e ∙ ap (λ (x : ℕ). get_or (set nodes reached w) x 0) b ∙ here))
      | inr b ↦ q.once i j (omega arith) (omega arith) (sym (before i (omega arith)) ∙ e ∙ before j (omega arith))
    ]
  ]

  pub queue_push : Queued p' (set nodes reached w) (reached + 1)
  queue_push = record {
    few = one_more q.few (passing_lt p p' 64 (λ v _ _ y. passes_still v y) w low high fresh now);
    once = once';
    low = each (λ x. 1 ≤ x) low q.low;
    high = each (λ x. x ≤ 64) high q.high;
    known = each (λ x. p' x ≡ true) now (λ i h. passes_still (get_or nodes i 0) (q.known i h));
    every = λ v l h y. elim (cases_eq v w) [
      | inl e ↦ listed_of (set nodes reached w) (reached + 1) v reached (omega arith) (here ∙ sym e)
      | inr n ↦
          let (i, hi, e) = placed p nodes reached v q l h (sym (others v n) ∙ y) in
          listed_of (set nodes reached w) (reached + 1) v i (omega arith) (before i hi ∙ e)
    ];
  }

-- two places changed over
module _ (nodes nodes' : List ℕ) (a b : ℕ) (over : ChangedOver nodes nodes' a b) where
  -- where the node at a place stood
  stood : (i : ℕ) → (j : ℕ) × (get_or nodes' i 0 ≡ get_or nodes j 0) × (((i ≡ a) × (j ≡ b)) ⊎ (((i ≡ b) × (j ≡ a)) ⊎ ((i ≡ a → ⊥) × (i ≡ b → ⊥) × (j ≡ i))))
  stood i = elim (cases_eq i a) [
    | inl e ↦ (b, ap (λ (x : ℕ). get_or nodes' x 0) e ∙ over.0, inl (e, refl))
    | inr n ↦ elim (cases_eq i b) [
      | inl e ↦ (a, ap (λ (x : ℕ). get_or nodes' x 0) e ∙ over.1, inr (inl (e, refl)))
      | inr o ↦ (i, over.2 i n o, inr (inr (n, o, refl)))
    ]
  ]

  pub queue_swap : (p : ℕ → Bool) (reached : ℕ) → a < reached → b < reached → Queued p nodes reached → Queued p nodes' reached
  queue_swap p reached la lb q = record {
    few = q.few;
    once = λ i j hi hj e.
        let (x, ex, wx) = stood i in
        let (y, ey, wy) = stood j in
        let xy : x ≡ y = q.once x y (within i x hi wx) (within j y hj wy) (sym ex ∙ e ∙ ey) in
        back i j x y wx wy xy;
    low = λ i h. let (x, ex, wx) = stood i in subst⁻¹ (λ (z : ℕ). 1 ≤ z) ex (q.low x (within i x h wx));
    high = λ i h. let (x, ex, wx) = stood i in subst⁻¹ (λ (z : ℕ). z ≤ 64) ex (q.high x (within i x h wx));
    known = λ i h. let (x, ex, wx) = stood i in subst⁻¹ (λ (z : ℕ). p z ≡ true) ex (q.known x (within i x h wx));
    every = λ v l h y.
        let (i, hi, e) = placed p nodes reached v q l h y in
        let (j, hj, f) = now_at i v hi e in
        listed_of nodes' reached v j hj f;
  }
    where
      within : (i x : ℕ) → i < reached → (((i ≡ a) × (x ≡ b)) ⊎ (((i ≡ b) × (x ≡ a)) ⊎ ((i ≡ a → ⊥) × (i ≡ b → ⊥) × (x ≡ i)))) → x < reached
      within i x h (inl (_, e)) = omega arith
      within i x h (inr (inl (_, e))) = omega arith
      within i x h (inr (inr (_, _, e))) = omega arith

      back : (i j x y : ℕ) → (((i ≡ a) × (x ≡ b)) ⊎ (((i ≡ b) × (x ≡ a)) ⊎ ((i ≡ a → ⊥) × (i ≡ b → ⊥) × (x ≡ i))))
          → (((j ≡ a) × (y ≡ b)) ⊎ (((j ≡ b) × (y ≡ a)) ⊎ ((j ≡ a → ⊥) × (j ≡ b → ⊥) × (y ≡ j)))) → x ≡ y → i ≡ j
      back i j x y (inl (e, f)) (inl (g, h)) z = e ∙ sym g
      back i j x y (inl (e, f)) (inr (inl (g, h))) z = omega arith
      back i j x y (inl (e, f)) (inr (inr (g, g', h))) z = absurd (g' (omega arith))
      back i j x y (inr (inl (e, f))) (inl (g, h)) z = omega arith
      back i j x y (inr (inl (e, f))) (inr (inl (g, h))) z = e ∙ sym g
      back i j x y (inr (inl (e, f))) (inr (inr (g, g', h))) z = absurd (g (omega arith))
      back i j x y (inr (inr (e, e', f))) (inl (g, h)) z = absurd (e' (omega arith))
      back i j x y (inr (inr (e, e', f))) (inr (inl (g, h))) z = absurd (e (omega arith))
      back i j x y (inr (inr (e, e', f))) (inr (inr (g, g', h))) z = omega arith

      now_at : (i v : ℕ) → i < reached → get_or nodes i 0 ≡ v → (j : ℕ) × (j < reached) × (get_or nodes' j 0 ≡ v)
      now_at i v h e = elim (cases_eq i a) [
        | inl x ↦ (b, lb, over.1 ∙ ap (λ (z : ℕ). get_or nodes z 0) (sym x) ∙ e)
        | inr n ↦ elim (cases_eq i b) [
          | inl x ↦ (a, la, over.0 ∙ ap (λ (z : ℕ). get_or nodes z 0) (sym x) ∙ e)
          | inr o ↦ (i, h, over.2 i n o ∙ e)
        ]
      ]

pub queue_few : (p : ℕ → Bool) (nodes : List ℕ) (reached : ℕ) → Queued p nodes reached → reached ≤ 64
queue_few p nodes reached q = chain q.few (passing_few p 64)
