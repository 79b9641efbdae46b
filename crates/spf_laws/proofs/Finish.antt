-- Where no node waits, a search has found the routes. Assumes nothing.
use Rattle.std.proofs.Common.{◌≡◌, ℕ, zero, suc, ◌<◌, ◌≤◌, Bool, false, cond, ◌&&◌, eqb, Some, None, Option, sym, refl, ap, ◌∙◌, subst, inl, inr, arith}
use mathlib.Core.Path.{subst⁻¹}
use Rattle.std.proofs.lemmas.Bool.{cases_Bool, cases_eq, eq-eqb, ne_eqb, cond-true, cond-false}
use Rattle.metric.specs.Meaning.{Meaning}
use Rattle.metric.specs.Laws.{Laws}
use Rattle.spf.specs.Maps.{Map, Node, Sound}
use Rattle.spf.specs.Routes.{Distance, Parent, NextHop, nowhere, there, onwards, IsRoute}
use Rattle.spf.specs.Reckoning.{leads_to}
use Rattle.spf.specs.declared.route.Route.{Route}
use Rattle.spf_laws.specs.Tables.{Table}
use Rattle.spf_laws.specs.Searches.{Lowest, offers, hop_by, Searching}
use Rattle.spf_laws.proofs.Least.{right}
use Rattle.spf_laws.proofs.Lowest.{lowest_same}
use Rattle.spf_laws.proofs.Settle.{finish}
use Rattle.spf_laws.proofs.Parents.{parent_of, leads_rank}
use Rattle.spf_laws.proofs.Ranks.{rank}

leads_from_none : (k : Meaning) (f : ℕ) (o w : Option ℕ) → o ≡ None → leads_to k f o w ≡ false
leads_from_none k zero o w e = refl
leads_from_none k (suc f) o w e = ap (λ (x : Option ℕ). leads_to k (suc f) x w) e

hop_some : (r v p h : ℕ) → hop_by r v (suc p) h ≡ cond (eqb (suc p) r) v h
hop_some r v p h = cond-false (eqb (suc p) 0) 0 (cond (eqb (suc p) r) v h) (ne_eqb (suc p) 0 (λ e. omega arith))

none_of : (o : Option ℕ) → ((c : ℕ) → o ≡ Some c → ⊥) → o ≡ None
none_of None h = refl
none_of (Some c) h = absurd (h c refl)

module _ (k : Meaning) (laws : Laws k) (m : Map) (sound : Sound m) (r : ℕ) (root : Node m r) (R : ℕ → Route) (s : ℕ → Bool)
    (search : Searching k m r R s) (over : (w c : ℕ) → s w ≡ false → (R w).distance ≡ Some c → ⊥) where
  table : Table k m r (λ v. (R v).distance)
  table = finish k laws m sound r root (λ v. (R v).distance) s search.going over

  unreached : (w : ℕ) → s w ≡ false → (R w).distance ≡ None
  unreached w e = none_of (R w).distance (λ c q. over w c e q)

  -- all that lead are settled
  all_offer : (v w : ℕ) → leads_to k (m.figure w v) (R w).distance (R v).distance ≡ offers k m (λ x. (R x).distance) s v w
  all_offer v w = elim (cases_Bool (s w)) [
    | inl y ↦ sym (ap (λ (b : Bool). b && leads_to k (m.figure w v) (R w).distance (R v).distance) y)
    | inr z ↦ leads_from_none k (m.figure w v) (R w).distance (R v).distance (unreached w z) ∙ sym (ap (λ (b : Bool). b && leads_to k (m.figure w v) (R w).distance (R v).distance) z)
  ]

  lowest : (v : ℕ) → Lowest (λ w. leads_to k (m.figure w v) (R w).distance (R v).distance) m.count (R v).parent
  lowest v = lowest_same (offers k m (λ x. (R x).distance) s v) (λ w. leads_to k (m.figure w v) (R w).distance (R v).distance) m.count (R v).parent (all_offer v) (search.chosen v)

  parents : (v : ℕ) → Parent k m r v (R v).parent
  parents v = parent_of k laws m sound r root (λ v. (R v).distance) table v (R v).parent (lowest v)

  abbrev rank_of : ℕ → ℕ
  rank_of v = rank k m.count (λ v. (R v).distance) v

  hop_more : (n v : ℕ) → rank_of v ≤ n → ((p : ℕ) → rank_of p < n → NextHop k m r p (R p).hop) → (p : ℕ) → (R v).parent ≡ p → NextHop k m r v (hop_by r v (R v).parent (R (R v).parent).hop)
  hop_more n v h ih zero e = subst⁻¹ (λ (p : ℕ). NextHop k m r v (hop_by r v p (R p).hop)) e (nowhere (subst (Parent k m r v) e (parents v)))
  hop_more n v h ih (suc p) e = elim (cases_eq (suc p) r) [
    | inl q ↦ subst⁻¹ (λ (x : ℕ). NextHop k m r v (hop_by r v x (R x).hop)) e
        (subst⁻¹ (NextHop k m r v) (hop_some r v p (R (suc p)).hop ∙ cond-true (eqb (suc p) r) v (R (suc p)).hop (eq-eqb (suc p) r q)) (there (subst (Parent k m r v) (e ∙ q) (parents v)) root.0))
    | inr n' ↦
        let par : Parent k m r v (suc p) = subst (Parent k m r v) e (parents v) in
        let falls = leads_rank k laws m sound r root (λ v. (R v).distance) table (suc p) v par.1 in
        subst⁻¹ (λ (x : ℕ). NextHop k m r v (hop_by r v x (R x).hop)) e
        (subst⁻¹ (NextHop k m r v) (hop_some r v p (R (suc p)).hop ∙ cond-false (eqb (suc p) r) v (R (suc p)).hop (ne_eqb (suc p) r n')) (onwards (suc p) par (omega arith) n' (ih (suc p) (omega arith))))
  ]

  hop_by_lem : (n v : ℕ) → rank_of v < n → NextHop k m r v (R v).hop
  hop_by_lem zero v h = absurd (omega arith)
  hop_by_lem (suc n) v h = elim (cases_Bool (s v)) [
    | inr z ↦
        let lost : Distance k m r v None = subst (Distance k m r v) (unreached v z) (right k laws m sound r root (λ v. (R v).distance) table v) in
        subst⁻¹ (NextHop k m r v) (search.hops v ∙ cond-false (s v) (hop_by r v (R v).parent (R (R v).parent).hop) 0 z) (nowhere (inr lost))
    | inl y ↦ subst⁻¹ (NextHop k m r v) (search.hops v ∙ cond-true (s v) (hop_by r v (R v).parent (R (R v).parent).hop) 0 y)
        (hop_more n v (omega arith) (λ p l. hop_by_lem n p l) (R v).parent refl)
  ]

  pub found : (v : ℕ) → IsRoute k m r v (R v)
  found v = record {
    distance = right k laws m sound r root (λ v. (R v).distance) table v;
    parent = parents v;
    hop = hop_by_lem (suc (rank_of v)) v (omega arith);
  }
