-- A node's rank: how many nodes have a cost less than its own. Along falling costs it falls, so such a way ends. Assumes nothing.
use Rattle.std.proofs.Common.{◌≡◌, ℕ, ◌<◌, ◌≤◌, Bool, true, false, Some, None, Option, refl, ap, ◌∙◌, subst, arith}
use Rattle.std.proofs.lemmas.Bool.{false≢true}
use Rattle.metric.specs.Meaning.{Meaning, Cost}
use Rattle.metric.specs.Laws.{Laws}
use Rattle.spf_laws.proofs.Options.{some_same}
use Rattle.spf_laws.specs.Searches.{passing}
use Rattle.spf_laws.proofs.Passing.{passing_lt, passing_all}

-- the second cost is there and less than the first
abbrev before : Meaning → Option ℕ → Option ℕ → Bool
before k None w = false
before k (Some c) None = false
before k (Some c) (Some a) = k.less a c

before_true : (k : Meaning) (o w : Option ℕ) → before k o w ≡ true → (c : ℕ) × (a : ℕ) × (o ≡ Some c) × (w ≡ Some a) × (k.less a c ≡ true)
before_true k None w e = absurd (false≢true e)
before_true k (Some c) None e = absurd (false≢true e)
before_true k (Some c) (Some a) e = (c, a, refl, refl, e)

before_at : (k : Meaning) {o w : Option ℕ} {c a : ℕ} → o ≡ Some c → w ≡ Some a → before k o w ≡ k.less a c
before_at k {o} {w} {c} {a} e f = ap (λ (x : Option ℕ). before k x w) e ∙ ap (λ (x : Option ℕ). before k (Some c) x) f

-- the rank of v among the nodes 1 to n with the costs d
unfoldable pub rank : Meaning → ℕ → (ℕ → Option ℕ) → ℕ → ℕ
rank k n d v = passing (λ (w : ℕ). before k (d v) (d w)) n

module _ (k : Meaning) (laws : Laws k) (n : ℕ) (d : ℕ → Option ℕ) (costs : (w c : ℕ) → 1 ≤ w → w ≤ n → d w ≡ Some c → Cost k c) where
  pub rank_falls : (p v a c : ℕ) → 1 ≤ p → p ≤ n → Cost k c → d p ≡ Some a → d v ≡ Some c → k.less a c ≡ true → rank k n d p < rank k n d v
  unfolding rank
  rank_falls p v a c low high costs-c dp dv l =
      passing_lt (λ (w : ℕ). before k (d p) (d w)) (λ (w : ℕ). before k (d v) (d w)) n
      (λ w from to e. let (x, y, ex, ey, less-yx) = before_true k (d p) (d w) e in
      before_at k dv ey ∙ laws.transitive y a c (costs w y from to ey) (costs p a low high dp) costs-c (subst (λ (z : ℕ). k.less y z ≡ true) (some_same ex dp) less-yx) l)
      p low high (before_at k dp dp ∙ laws.irreflexive a (costs p a low high dp)) (before_at k dv dp ∙ l)

  below_all : (v x : ℕ) → 1 ≤ x → x ≤ n → before k (d v) (d x) ≡ false → rank k n d v < n
  unfolding rank
  below_all v x low high e = omega (
    arith,
    passing_all n,
    passing_lt (λ (w : ℕ). before k (d v) (d w)) (λ (w : ℕ). true) n (λ w _ _ _. refl) x low high e refl,
  )

  pub rank_few : (v c : ℕ) → 1 ≤ v → v ≤ n → d v ≡ Some c → rank k n d v < n
  rank_few v c low high e = below_all v v low high (before_at k e e ∙ laws.irreflexive c (costs v c low high e))

  pub rank_none : (v : ℕ) → 1 ≤ n → d v ≡ None → rank k n d v < n
  rank_none v some e = below_all v 1 (omega arith) some (ap (λ (x : Option ℕ). before k x (d 1)) e)
