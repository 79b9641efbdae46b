-- A line more than a path: the node it leads to has a path that costs no more. Assumes nothing.
use Rattle.std.proofs.Common.{◌≡◌, ℕ, true, ◌⊎◌, List, [], ◌∷◌, refl, inl, inr}
use mathlib.Core.Path.{subst⁻¹}
use Rattle.std.proofs.lemmas.Bool.{cases_eq}
use Rattle.metric.specs.Meaning.{Meaning, Cost}
use Rattle.metric.specs.Laws.{Laws}
use Rattle.spf.specs.Maps.{Map, Node, Joined, Sound}
use Rattle.spf.specs.Paths.{Apart, Path, cost}
use Rattle.spf_laws.proofs.Orders.{AtMost, at_most_trans, less_at_most}
use Rattle.spf_laws.proofs.Paths.{path_is_cost, path_cost_more}

module _ (k : Meaning) (laws : Laws k) (m : Map) (sound : Sound m) (r : ℕ) (root : Node m r) where
  costs : (us : List ℕ) (v : ℕ) → Path m r v us → Cost k (cost k m v us)
  costs us v p = path_is_cost m sound r root k us v p

  -- a line more costs more
  pub line_more : (us : List ℕ) (u v : ℕ) → Path m r u us → Joined m u v → k.less (cost k m u us) (k.add (cost k m u us) (m.figure u v)) ≡ true
  line_more us u v p j = laws.rises (cost k m u us) (m.figure u v) (costs us u p) (j, sound.fits u v)

  -- the empty cost is at most any path's cost
  pub empty_least : (us : List ℕ) (v : ℕ) → Path m r v us → AtMost k k.empty (cost k m v us)
  empty_least [] v p = laws.irreflexive k.empty (costs [] r refl)
  empty_least (u ∷ us) v p =
      at_most_trans k laws (costs [] r refl) (costs us u p.2) (costs (u ∷ us) v p) (empty_least us u p.2) (less_at_most k laws (costs us u p.2) (costs (u ∷ us) v p) (line_more us u v p.2 p.0))

  -- a path visits v before its end, and then a path to v costs less, or it does not
  pub visits_before : (us : List ℕ) (u : ℕ) → Path m r u us → (v : ℕ) → Apart v us ⊎ ((ws : List ℕ) × Path m r v ws × (k.less (cost k m v ws) (cost k m u us) ≡ true))
  visits_before [] u p v = inl tt
  visits_before (w ∷ us) u p v = elim (cases_eq v w) [
    | inl e ↦ inr (subst⁻¹ (λ (x : ℕ). (ws : List ℕ) × Path m r x ws × (k.less (cost k m x ws) (cost k m u (w ∷ us)) ≡ true)) e (us, p.2, line_more us w u p.2 p.0))
    | inr n ↦ elim (visits_before us w p.2 v) [
      | inl a ↦ inl (n, a)
      | inr (ws, q, l) ↦ inr (
        ws,
        q,
        laws.transitive (cost k m v ws) (cost k m w us) (cost k m u (w ∷ us)) (costs ws v q) (costs us w p.2) (costs (w ∷ us) u p) l (line_more us w u p.2 p.0),
      )
    ]
  ]

  -- a path visits v, and then a path to v costs no more, or it does not
  pub visits : (us : List ℕ) (u : ℕ) → Path m r u us → (v : ℕ) → Apart v (u ∷ us) ⊎ ((ws : List ℕ) × Path m r v ws × AtMost k (cost k m v ws) (cost k m u us))
  visits us u p v = elim (cases_eq v u) [
    | inl e ↦ inr (subst⁻¹ (λ (x : ℕ). (ws : List ℕ) × Path m r x ws × AtMost k (cost k m x ws) (cost k m u us)) e (us, p, laws.irreflexive (cost k m u us) (costs us u p)))
    | inr n ↦ elim (visits_before us u p v) [
      | inl a ↦ inl (n, a)
      | inr (ws, q, l) ↦ inr (ws, q, less_at_most k laws (costs ws v q) (costs us u p) l)
    ]
  ]

  -- where a line leads on from a path, there is a path that costs no more than both
  pub extended : (us : List ℕ) (u v : ℕ) → Path m r u us → Joined m u v → (ws : List ℕ) × Path m r v ws × AtMost k (cost k m v ws) (k.add (cost k m u us) (m.figure u v))
  extended us u v p j =
      let more-cost = path_cost_more m sound r root k us u v p j in
      elim (visits us u p v) [
        | inl a ↦ (u ∷ us, (j, a, p), laws.irreflexive (k.add (cost k m u us) (m.figure u v)) more-cost)
        | inr (ws, q, l) ↦ (ws, q, at_most_trans k laws (costs ws v q) (costs us u p) more-cost l (less_at_most k laws (costs us u p) more-cost (line_more us u v p j)))
      ]
