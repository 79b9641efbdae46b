-- Parents and next hops from a table of distances. Assumes nothing.
use Rattle.std.proofs.Common.{◌≡◌, ℕ, zero, suc, ◌<◌, ◌≤◌, Bool, true, eqb, List, [], ◌∷◌, Some, None, Option, refl, ap, ◌∙◌, subst, inl, inr, arith}
use mathlib.Core.Path.{subst⁻¹}
use Rattle.std.proofs.lemmas.Bool.{both_ways, cases_eq, eqb-true, eq-eqb, ne_eqb, cond-true, cond-false, false≢true}
use Rattle.metric.specs.Meaning.{Meaning, Cost}
use Rattle.metric.specs.Laws.{Laws}
use Rattle.spf.specs.Maps.{Map, Node, Sound}
use Rattle.spf.specs.Paths.{Path, cost}
use Rattle.spf.specs.Routes.{Distance, Leads, Parent, NextHop, nowhere, there, onwards}
use Rattle.spf.specs.Reckoning.{leads_to, lowest, along, parent_from}
use Rattle.spf_laws.specs.Tables.{Table}
use Rattle.spf_laws.proofs.Options.{some_same}
use Rattle.spf_laws.proofs.Orders.{AtMost, at_most_same, at_most_trans}
use Rattle.spf_laws.proofs.Paths.{path_node, path_is_cost}
use Rattle.spf_laws.proofs.Unique.{distance_cost, unique, parent_leads}
use Rattle.spf_laws.proofs.Least.{right, least, known_cost, known_cost_more}
use Rattle.spf_laws.specs.Searches.{Lowest}
use Rattle.spf_laws.proofs.Passing.{lowest_right}
use Rattle.spf_laws.proofs.Visits.{empty_least}
use Rattle.spf_laws.proofs.Ranks.{rank, rank_falls, rank_few, rank_none}

-- what it takes to lead
pub passes : (k : Meaning) (f : ℕ) (o w : Option ℕ) → leads_to k f o w ≡ true → (a : ℕ) × (c : ℕ) × (o ≡ Some a) × (w ≡ Some c) × (1 ≤ f) × (k.add a f ≡ c)
passes k zero o w e = absurd (false≢true e)
passes k (suc f) None w e = absurd (false≢true e)
passes k (suc f) (Some a) None e = absurd (false≢true e)
passes k (suc f) (Some a) (Some c) e = (a, c, refl, refl, omega arith, eqb-true (k.add a (suc f)) c e)

module _ (k : Meaning) (laws : Laws k) (m : Map) (sound : Sound m) (r : ℕ) (root : Node m r) where
  module _ (d : ℕ → Option ℕ) (table : Table k m r d) where
    has : {v a : ℕ} → Distance k m r v (Some a) → d v ≡ Some a
    has {v} {a} h =
        let (b, db, lb) = least k laws m sound r root d table h.0.0 v h.0.1 in
        db ∙ ap (λ (x : ℕ). Some x) (unique k laws m sound r root (subst (Distance k m r v) db (right k laws m sound r root d table v)) h)

    gives : {v a : ℕ} → d v ≡ Some a → Distance k m r v (Some a)
    gives {v} {a} e = subst (Distance k m r v) e (right k laws m sound r root d table v)

    test : ℕ → ℕ → Bool
    test v p = leads_to k (m.figure p v) (d p) (d v)

    passed : (f : ℕ) (a c : ℕ) → 1 ≤ f → k.add a f ≡ c → leads_to k f (Some a) (Some c) ≡ true
    passed zero a c h e = absurd (omega arith)
    passed (suc g) a c h e = eq-eqb (k.add a (suc g)) c e

    test_leads : (v p : ℕ) → test v p ≡ true → Leads k m r p v
    unfolding test
    test_leads v p e = let (a, c, da, dc, j, q) = passes k (m.figure p v) (d p) (d v) e in (a, c, gives da, gives dc, j, q)

    leads_test : (v p : ℕ) → Leads k m r p v → test v p ≡ true
    unfolding test
    leads_test v p (a, c, da, dc, j, q) =
        subst⁻¹ (λ (o : Option ℕ). leads_to k (m.figure p v) o (d v) ≡ true) (has da) (subst⁻¹ (λ (w : Option ℕ). leads_to k (m.figure p v) (Some a) w ≡ true) (has dc) (passed (m.figure p v) a c j q))

    -- every node with a path but the root has a node that leads to it
    exists : (us : List ℕ) (v c : ℕ) → (v ≡ r → ⊥) → d v ≡ Some c → Path m r v us → cost k m v us ≡ c → (p : ℕ) × Leads k m r p v
    exists [] v c n dv p e = absurd (n p)
    exists (u ∷ us) v c n dv p e =
        let (a, da, la) = least k laws m sound r root d table us u p.2 in
        let (b, db, lb) = table.closed u v a p.0 da in
        let bc : b ≡ c = some_same db dv in
        let f = m.figure u v in
        let up : AtMost k (k.add a f) c = subst (λ (x : ℕ). AtMost k (k.add a f) x) e
        (laws.keeps a (cost k m u us) f (known_cost k laws m sound r root d table da) (path_is_cost m sound r root k us u p.2) (p.0, sound.fits u v) la) in (
          u,
          (
            a,
            c,
            gives da,
            gives dv,
            p.0,
            at_most_same k laws (known_cost_more k laws m sound r root d table da p.0) (known_cost k laws m sound r root d table dv) up (subst (λ (x : ℕ). AtMost k x (k.add a f)) bc lb),
          ),
        )

    parent_beyond : (v x : ℕ) → (v ≡ r → ⊥) → Lowest (test v) m.count x → Parent k m r v x
    parent_beyond v zero n h = inr (lost (d v) refl)
      where
        lost : (o : Option ℕ) → d v ≡ o → Distance k m r v None
        lost None e = subst (Distance k m r v) e (right k laws m sound r root d table v)
        lost (Some c) e =
            let w = table.reached v c e in
            let (p, l) = exists w.0 v c n e w.1 w.2 in
            let nd = sound.leaves p v l.4 in
            absurd (both_ways (test v p) (h p nd.0 nd.1) (leads_test v p l))
    parent_beyond v (suc p) n h = (n, test_leads v (suc p) h.1, λ q lt l. both_ways (test v q) (h.2 q (sound.leaves q v l.4).0 lt) (leads_test v q l))

    -- nothing leads to the root: it would cost less than the empty cost
    no_leader : (p : ℕ) → Leads k m r p r → ⊥
    no_leader p (a, c, da, dc, j, q) =
        let ca = distance_cost k laws m sound r root da in
        let cc' = distance_cost k laws m sound r root dc in
        let l : k.less a c ≡ true = subst (λ (x : ℕ). k.less a x ≡ true) q (laws.rises a (m.figure p r) ca (j, sound.fits p r)) in
        let low : AtMost k k.empty a = subst (AtMost k k.empty) da.0.2 (empty_least k laws m sound r root da.0.0 p da.0.1) in
        both_ways (k.less a c) (at_most_trans k laws cc' (path_is_cost m sound r root k [] r refl) ca (dc.1 [] refl) low) l

    -- the lowest that leads to a node is its parent, and none leads to the root
    pub parent_of : (v x : ℕ) → Lowest (λ (p : ℕ). leads_to k (m.figure p v) (d p) (d v)) m.count x → Parent k m r v x
    unfolding test
    parent_of v x h = elim (cases_eq v r) [ inl q ↦ at_root x q h | inr n ↦ parent_beyond v x n h ]
      where
        at_root : (x : ℕ) → v ≡ r → Lowest (λ (p : ℕ). leads_to k (m.figure p v) (d p) (d v)) m.count x → Parent k m r v x
        at_root zero q h = inl q
        at_root (suc p) q h = absurd (no_leader (suc p) (subst (λ (y : ℕ). Leads k m r (suc p) y) q (test_leads v (suc p) h.1)))

    -- the parent as it is computed
    pub parent_right : (v : ℕ) → Parent k m r v (parent_from k m r d v)
    unfolding test
    parent_right v = elim (cases_eq v r) [
      | inl q ↦ subst⁻¹ (Parent k m r v) (cond-true (eqb v r) 0 (lowest (test v) m.count) (eq-eqb v r q)) (inl q)
      | inr n ↦ subst⁻¹ (Parent k m r v) (cond-false (eqb v r) 0 (lowest (test v) m.count) (ne_eqb v r n)) (parent_of v (lowest (test v) m.count) (lowest_right (test v) m.count))
    ]

    costs : (w c : ℕ) → 1 ≤ w → w ≤ m.count → d w ≡ Some c → Cost k c
    costs w c _ _ e = known_cost k laws m sound r root d table e

    pub leads_rank : (p v : ℕ) → Leads k m r p v → rank k m.count d p < rank k m.count d v
    leads_rank p v (a, c, da, dc, j, q) =
        let ca = distance_cost k laws m sound r root da in
        let nd = sound.leaves p v j in
        rank_falls k laws m.count d costs p v a c nd.0 nd.1 (distance_cost k laws m sound r root dc) (has da) (has dc)
        (subst (λ (x : ℕ). k.less a x ≡ true) q (laws.rises a (m.figure p v) ca (j, sound.fits p v)))

    low_rank : (v : ℕ) → rank k m.count d v < m.count
    low_rank v = go (d v) refl
      where
        go : (o : Option ℕ) → d v ≡ o → rank k m.count d v < m.count
        go None e = rank_none k laws m.count d costs v (omega (arith, root)) e
        go (Some c) e =
            let w = table.reached v c e in
            let nd = path_node m sound r root w.0 v w.1 in
            rank_few k laws m.count d costs v c nd.0 nd.1 e

    module _ (parent : ℕ → ℕ) (parents : (v : ℕ) → Parent k m r v (parent v)) where
      -- no line leads to 0, so it has no parent
      parent_zero : (x : ℕ) → Parent k m r 0 x → x ≡ 0
      parent_zero zero h = refl
      parent_zero (suc p) h = let nd = sound.leads (suc p) 0 h.1.4 in absurd (omega arith)

      along_zero : (n : ℕ) → along parent r n 0 ≡ 0
      along_zero zero = refl
      along_zero (suc n) =
          let z = parent_zero (parent 0) (parents 0) in
          cond-false (eqb (parent 0) r) 0 (along parent r n (parent 0)) (ne_eqb (parent 0) r (λ e. absurd (omega (arith, root))))
          ∙ ap (along parent r n) z ∙ along_zero n

      hop_more : (n v : ℕ) → rank k m.count d v ≤ n → (parent v ≡ r → ⊥)
          → (rank k m.count d (parent v) < n → NextHop k m r (parent v) (along parent r n (parent v))) → (p : ℕ) → parent v ≡ p → NextHop k m r v (along parent r n (parent v))
      hop_more n v h x ih zero e = subst⁻¹ (NextHop k m r v) (ap (along parent r n) e ∙ along_zero n) (nowhere (subst (Parent k m r v) e (parents v)))
      hop_more n v h x ih (suc p) e =
          let falls = leads_rank (parent v) v (parent_leads k laws m sound r root (parent v) (parents v) (omega arith)) in
          onwards (parent v) (parents v) (omega arith) x (ih (omega arith))

      hop_within : (n v : ℕ) → rank k m.count d v < n → NextHop k m r v (along parent r n v)
      hop_within zero v h = absurd (omega arith)
      hop_within (suc n) v h = elim (cases_eq (parent v) r) [
        | inl q ↦ subst⁻¹ (NextHop k m r v) (cond-true (eqb (parent v) r) v (along parent r n (parent v)) (eq-eqb (parent v) r q)) (there (subst (Parent k m r v) q (parents v)) root.0)
        | inr x ↦ subst⁻¹ (NextHop k m r v) (cond-false (eqb (parent v) r) v (along parent r n (parent v)) (ne_eqb (parent v) r x))
            (hop_more n v (omega arith) x (hop_within n (parent v)) (parent v) refl)
      ]

      -- the next hop as it is computed
      pub hop_right : (v : ℕ) → NextHop k m r v (along parent r m.count v)
      hop_right v = hop_within m.count v (low_rank v)
