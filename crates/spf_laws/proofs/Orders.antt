-- What the four laws give of "not more than". Assumes nothing.
use Rattle.std.proofs.Common.{◌≡◌, ℕ, true, false, Some, Option, subst, inl, inr}
use Rattle.std.proofs.lemmas.Bool.{both_ways, false_from_ne_true}
use Rattle.metric.specs.Meaning.{Meaning, Cost}
use Rattle.metric.specs.Laws.{Laws}

-- a is not more than b
abbrev pub AtMost : Meaning → ℕ → ℕ → Type 0
AtMost k a b = k.less b a ≡ false

-- a cost is there, and not more than b
abbrev pub NoMore : Meaning → Option ℕ → ℕ → Type 0
NoMore k o b = (a : ℕ) × (o ≡ Some a) × AtMost k a b

module _ (k : Meaning) (laws : Laws k) where
  pub less_at_most : {a b : ℕ} → Cost k a → Cost k b → k.less a b ≡ true → AtMost k a b
  less_at_most {a} {b} ca cb h = false_from_ne_true (k.less b a) (λ g. both_ways (k.less a a) (laws.irreflexive a ca) (laws.transitive a b a ca cb ca h g))

  pub at_most_trans : {a b c : ℕ} → Cost k a → Cost k b → Cost k c → AtMost k a b → AtMost k b c → AtMost k a c
  at_most_trans {a} {b} {c} ca cb cc' p q =
      false_from_ne_true (k.less c a) (λ h. elim (laws.total a b ca cb) [
        | inl ab ↦ both_ways (k.less c b) q (laws.transitive c a b cc' ca cb h ab)
        | inr o ↦ elim o [
          | inl e ↦ both_ways (k.less c b) q (subst (λ (x : ℕ). k.less c x ≡ true) e h)
          | inr ba ↦ both_ways (k.less b a) p ba
        ]
      ])

  pub at_most_same : {a b : ℕ} → Cost k a → Cost k b → AtMost k a b → AtMost k b a → a ≡ b
  at_most_same {a} {b} ca cb p q = elim (laws.total a b ca cb) [
    | inl ab ↦ absurd (both_ways (k.less a b) q ab)
    | inr o ↦ elim o [ inl e ↦ e | inr ba ↦ absurd (both_ways (k.less b a) p ba) ]
  ]
