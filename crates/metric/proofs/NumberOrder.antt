-- A metric that compares costs as numbers keeps the four laws once adding a figure raises a cost, keeps the order and may be done in
-- either order. Assumes nothing.
use Rattle.std.proofs.Common.{◌≡◌, ℕ, ◌<◌, ◌≤◌, true, false, ltb, sym, ◌∙◌, inl, inr, arith}
use Rattle.std.proofs.lemmas.Bool.{ltb-true, ltb-false, lt-ltb, le-ltb, cases_order}
use Rattle.metric.specs.Meaning.{Meaning, Figure, Cost}
use Rattle.metric.specs.Laws.{Laws}

-- What such a metric has to show, in the order of numbers.
pub record ByNumbers (m : Meaning) : Type 0 where
  pub order : (a b : ℕ) → m.less a b ≡ ltb a b
  pub rises : (a f : ℕ) → Cost m a → Figure f → a < m.add a f
  pub keeps : (a b f : ℕ) → Cost m a → Cost m b → Figure f → a ≤ b → m.add a f ≤ m.add b f
  pub swaps : (a f g : ℕ) → Cost m a → Figure f → Figure g → m.add (m.add a f) g ≡ m.add (m.add a g) f

module _ {m : Meaning} (shown : ByNumbers m) where
  less : {a b : ℕ} → a < b → m.less a b ≡ true
  less {a} {b} h = shown.order a b ∙ lt-ltb a b h

  not_less : {a b : ℕ} → b ≤ a → m.less a b ≡ false
  not_less {a} {b} h = shown.order a b ∙ le-ltb a b h

  below : {a b : ℕ} → m.less a b ≡ true → a < b
  below {a} {b} h = ltb-true a b (sym (shown.order a b) ∙ h)

  at_most : {a b : ℕ} → m.less a b ≡ false → b ≤ a
  at_most {a} {b} h = ltb-false a b (sym (shown.order a b) ∙ h)

  pub laws_by_numbers : Laws m
  laws_by_numbers = record {
    transitive = λ a b c _ _ _ p q. less (omega (arith, below {a = a} {b = b} p, below {a = b} {b = c} q));
    irreflexive = λ a _. not_less {a = a} {b = a} (omega arith);
    total = λ a b _ _. elim (cases_order a b) [
      | inl e ↦ inr (inl e)
      | inr o ↦ elim o [ inl h ↦ inl (less h) | inr h ↦ inr (inr (less h)) ]
    ];
    rises = λ a f ca ok. less (shown.rises a f ca ok);
    keeps = λ a b f ca cb ok h. not_less (shown.keeps a b f ca cb ok (at_most {a = b} {b = a} h));
    swaps = shown.swaps;
  }
