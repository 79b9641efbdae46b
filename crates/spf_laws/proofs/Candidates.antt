-- The least of what lines bring to a node is one of these costs, and no more than any of them. Assumes nothing.
use Rattle.std.proofs.Common.{◌≡◌, ℕ, zero, suc, ◌≤◌, ◌⊎◌, Some, None, Option, sym, refl, ap, ◌∙◌, subst, inl, inr, arith}
use mathlib.Core.Path.{subst⁻¹}
use Rattle.std.proofs.lemmas.Bool.{cases_Bool, cases_eq, cond-true, cond-false}
use Rattle.metric.specs.Meaning.{Meaning, Cost}
use Rattle.metric.specs.Laws.{Laws}
use Rattle.spf.specs.Maps.{Map, Joined}
use Rattle.spf.specs.Reckoning.{lesser, brought, least_to}
use Rattle.spf_laws.proofs.Options.{some_same, none_some}
use Rattle.spf_laws.proofs.Orders.{AtMost, NoMore, at_most_trans, less_at_most}

-- what a line brings
brought_some : (k : Meaning) (f c : ℕ) (o : Option ℕ) → brought k f o ≡ Some c → (a : ℕ) × (o ≡ Some a) × (1 ≤ f) × (k.add a f ≡ c)
brought_some k zero c o e = absurd (none_some refl e)
brought_some k (suc f) c None e = absurd (none_some refl e)
brought_some k (suc f) c (Some a) e = (a, refl, omega arith, some_same refl e)

brought_of : (k : Meaning) (f a : ℕ) → 1 ≤ f → brought k f (Some a) ≡ Some (k.add a f)
brought_of k zero a h = absurd (omega arith)
brought_of k (suc f) a h = refl

-- the lesser is one of the two
lesser_one : (k : Meaning) (x y : Option ℕ) (c : ℕ) → lesser k x y ≡ Some c → (x ≡ Some c) ⊎ (y ≡ Some c)
lesser_one k None y c e = inr e
lesser_one k (Some a) None c e = inl e
lesser_one k (Some a) (Some b) c e = elim (cases_Bool (k.less b a)) [
  | inl t ↦ inr (sym (cond-true (k.less b a) (Some b) (Some a) t) ∙ e)
  | inr f ↦ inl (sym (cond-false (k.less b a) (Some b) (Some a) f) ∙ e)
]

module _ (k : Meaning) (laws : Laws k) where
  -- every cost of an option is a path cost
  abbrev pub Costs : Option ℕ → Type 0
  Costs o = (c : ℕ) → o ≡ Some c → Cost k c

  -- the lesser is no more than either of the two
  lesser_left : (a : ℕ) (y : Option ℕ) → Cost k a → Costs y → NoMore k (lesser k (Some a) y) a
  lesser_left a None ca cy = (a, refl, laws.irreflexive a ca)
  lesser_left a (Some b) ca cy = elim (cases_Bool (k.less b a)) [
    | inl t ↦ (b, cond-true (k.less b a) (Some b) (Some a) t, less_at_most k laws (cy b refl) ca t)
    | inr f ↦ (a, cond-false (k.less b a) (Some b) (Some a) f, laws.irreflexive a ca)
  ]

  lesser_right : (x : Option ℕ) (b : ℕ) → Costs x → Cost k b → NoMore k (lesser k x (Some b)) b
  lesser_right None b cx cb = (b, refl, laws.irreflexive b cb)
  lesser_right (Some a) b cx cb = elim (cases_Bool (k.less b a)) [
    | inl t ↦ (b, cond-true (k.less b a) (Some b) (Some a) t, laws.irreflexive b cb)
    | inr f ↦ (a, cond-false (k.less b a) (Some b) (Some a) f, f)
  ]

  pub no_more : {a b : ℕ} {o : Option ℕ} → Costs o → Cost k a → Cost k b → NoMore k o a → AtMost k a b → NoMore k o b
  no_more co ca cb (x, e, l) h = (x, e, at_most_trans k laws (co x e) ca cb l h)

  module _ (m : Map) (costs : ℕ → Option ℕ) (v : ℕ) (known : Costs (costs v))
      (known_more : (u a : ℕ) → Joined m u v → costs u ≡ Some a → Cost k (k.add a (m.figure u v))) where
    -- the least to v is the cost of v, or comes by a line
    pub least_one : (n c : ℕ) → least_to k m costs v n ≡ Some c
        → (costs v ≡ Some c) ⊎ ((u : ℕ) × (a : ℕ) × Joined m u v × (costs u ≡ Some a) × (k.add a (m.figure u v) ≡ c))
    least_one zero c e = inl e
    least_one (suc n) c e = elim (lesser_one k (least_to k m costs v n) (brought k (m.figure (suc n) v) (costs (suc n))) c e) [
      | inl x ↦ least_one n c x
      | inr y ↦ let (a, ea, j, s) = brought_some k (m.figure (suc n) v) c (costs (suc n)) y in inr (suc n, a, j, ea, s)
    ]

    pub least_cost : (n : ℕ) → Costs (least_to k m costs v n)
    least_cost n c e = elim (least_one n c e) [
      | inl x ↦ known c x
      | inr (u, a, j, ea, s) ↦ subst (Cost k) s (known_more u a j ea)
    ]

    line_cost : (u : ℕ) → Costs (brought k (m.figure u v) (costs u))
    line_cost u c e = let (a, ea, j, s) = brought_some k (m.figure u v) c (costs u) e in subst (Cost k) s (known_more u a j ea)

    -- and it is no more than each of these
    least_step : (n a : ℕ) → Cost k a → NoMore k (least_to k m costs v n) a → NoMore k (least_to k m costs v (suc n)) a
    least_step n a ca (b, e, l) =
        let y = brought k (m.figure (suc n) v) (costs (suc n)) in
        let cb = least_cost n b e in
        no_more (least_cost (suc n)) cb ca (subst⁻¹ (λ (o : Option ℕ). NoMore k (lesser k o y) b) e (lesser_left b y cb (line_cost (suc n)))) l

    pub least_known : (n a : ℕ) → costs v ≡ Some a → NoMore k (least_to k m costs v n) a
    least_known zero a e = (a, e, laws.irreflexive a (known a e))
    least_known (suc n) a e = least_step n a (known a e) (least_known n a e)

    pub least_line : (n u a : ℕ) → 1 ≤ u → u ≤ n → Joined m u v → costs u ≡ Some a → NoMore k (least_to k m costs v n) (k.add a (m.figure u v))
    least_line zero u a low high j e = absurd (omega arith)
    least_line (suc n) u a low high j e = elim (cases_eq u (suc n)) [
      | inl q ↦
          let s : brought k (m.figure (suc n) v) (costs (suc n)) ≡ Some (k.add a (m.figure u v)) =
          subst (λ (x : ℕ). brought k (m.figure x v) (costs x) ≡ Some (k.add a (m.figure u v))) q (ap (brought k (m.figure u v)) e ∙ brought_of k (m.figure u v) a j) in
          subst⁻¹ (λ (o : Option ℕ). NoMore k (lesser k (least_to k m costs v n) o) (k.add a (m.figure u v))) s
          (lesser_right (least_to k m costs v n) (k.add a (m.figure u v)) (least_cost n) (known_more u a j e))
      | inr z ↦ least_step n (k.add a (m.figure u v)) (known_more u a j e) (least_line n u a low (omega arith) j e)
    ]
