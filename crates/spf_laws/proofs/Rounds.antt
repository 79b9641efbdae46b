-- The rounds reckon the distances: after j rounds a cost is that of some path at least, and at most that of any path of j lines. Assumes nothing.
use Rattle.std.proofs.Common.{◌≡◌, ℕ, zero, suc, ◌<◌, ◌≤◌, cond, eqb, List, [], ◌∷◌, map, length, Some, None, Option, sym, refl, ◌∙◌, subst, inl, inr, arith}
use mathlib.Core.Path.{subst⁻¹}
use Rattle.std.specs.List.{range_with_len}
use Rattle.std.proofs.lemmas.Bool.{cases_Bool, cases_lt, eqb-true, eq-eqb, cond-true, cond-false}
use Rattle.std.proofs.lemmas.List.{get_or_past}
use Rattle.std.proofs.lemmas.List.FromFn.{length-map-range_with_len, get_or-map-range_with_len}
use Rattle.metric.specs.Meaning.{Meaning, Cost, CostUpTo, PathCost, none, more}
use Rattle.metric.specs.Laws.{Laws}
use Rattle.spf.specs.Maps.{Map, Node, Joined, Sound}
use Rattle.spf.specs.Paths.{Path, cost}
use Rattle.spf.specs.Routes.{Distance}
use Rattle.spf.specs.Reckoning.{least_to, cost_at, costs_within, distances}
use Rattle.spf_laws.proofs.Options.{some_same, none_some}
use Rattle.spf_laws.proofs.Orders.{AtMost, NoMore, at_most_trans, at_most_same}
use Rattle.spf_laws.proofs.Paths.{path_node, path_few, path_is_cost, path_cost_more}
use Rattle.spf_laws.proofs.Candidates.{Costs, no_more, least_one, least_cost, least_known, least_line}
use Rattle.spf_laws.proofs.Visits.{extended}

-- what a list of costs, made node by node, has at a node
cost_at_node : (f : ℕ → Option ℕ) (n v : ℕ) → 1 ≤ v → v ≤ n → cost_at (map f (range_with_len 1 n)) v ≡ f v
cost_at_node f n zero low high = absurd (omega arith)
cost_at_node f n (suc i) low high = get_or-map-range_with_len f 1 n i (suc i) None (omega arith) (omega arith)

cost_at_some : (f : ℕ → Option ℕ) (n v c : ℕ) → cost_at (map f (range_with_len 1 n)) v ≡ Some c → f v ≡ Some c
cost_at_some f n zero c e = absurd (none_some refl e)
cost_at_some f n (suc i) c e = elim (cases_lt i n) [
  | inl lt ↦ sym (cost_at_node f n (suc i) (omega arith) (omega arith)) ∙ e
  | inr past ↦ absurd (none_some (get_or_past (map f (range_with_len 1 n)) i None (omega (arith, length-map-range_with_len f 1 n))) e)
]

module _ (k : Meaning) (laws : Laws k) (m : Map) (sound : Sound m) (r : ℕ) (root : Node m r) where
  -- the costs after j rounds
  abbrev after : ℕ → ℕ → Option ℕ
  after j = cost_at (costs_within k m r j)

  costs_of : (us : List ℕ) (v : ℕ) → Path m r v us → Cost k (cost k m v us)
  costs_of us v p = path_is_cost m sound r root k us v p

  at_start : (v c : ℕ) → after 0 v ≡ Some c → (v ≡ r) × (c ≡ k.empty)
  at_start v c e =
      let s = cost_at_some (λ (x : ℕ). cond (eqb x r) (Some k.empty) None) m.count v c e in
      elim (cases_Bool (eqb v r)) [
        | inl t ↦ (eqb-true v r t, some_same s (cond-true (eqb v r) (Some k.empty) None t))
        | inr f ↦ absurd (none_some (cond-false (eqb v r) (Some k.empty) None f) s)
      ]

  -- after j rounds a cost is a path cost of at most j lines, and some path to the node costs no more
  abbrev Known : ℕ → ℕ → ℕ → Type 0
  Known j v c = (ws : List ℕ) × Path m r v ws × AtMost k (cost k m v ws) c × CostUpTo j k c

  up_to : {j n c : ℕ} → j ≤ n → CostUpTo j k c → CostUpTo n k c
  up_to le w = record { lines = w.lines; few = omega arith; path = w.path }

  by_line : {j a : ℕ} (u v : ℕ) → Joined m u v → CostUpTo j k a → CostUpTo (suc j) k (k.add a (m.figure u v))
  by_line u v j w = record { lines = suc w.lines; few = omega arith; path = more (m.figure u v) (j, sound.fits u v) w.path }

  known_line : (j u v a : ℕ) → j < 64 → Joined m u v → Known j u a → Known (suc j) v (k.add a (m.figure u v))
  known_line j u v a le jo (us, p, l, w) =
      let f = m.figure u v in
      let (ws, q, h) = extended k laws m sound r root us u v p jo in
      let w' = by_line u v jo w in (
        ws,
        q,
        at_most_trans k laws (costs_of ws v q) (path_cost_more m sound r root k us u v p jo) (up_to le w') h
            (laws.keeps (cost k m u us) a f (costs_of us u p) (up_to (omega arith) w) (jo, sound.fits u v) l),
        w',
      )

  module _ (j : ℕ) (le : j < 64) (ih : (v c : ℕ) → after j v ≡ Some c → Known j v c) where
    held : (v : ℕ) → Costs k laws (after j v)
    held v c e = up_to (omega arith) (ih v c e).3

    held_more : (v u a : ℕ) → Joined m u v → after j u ≡ Some a → Cost k (k.add a (m.figure u v))
    held_more v u a jo e = up_to le (by_line u v jo (ih u a e).3)

    known_step : (v c : ℕ) → after (suc j) v ≡ Some c → Known (suc j) v c
    known_step v c e =
        elim (least_one k laws m (after j) v (held v) (held_more v) m.count c (cost_at_some (λ (x : ℕ). least_to k m (after j) x m.count) m.count v c e)) [
          | inl x ↦ let (ws, p, l, w) = ih v c x in (ws, p, l, up_to (omega arith) w)
          | inr (u, a, jo, ea, s) ↦ subst (Known (suc j) v) s (known_line j u v a le jo (ih u a ea))
        ]

    -- one round more is no more than any path of one line more
    stays_under : (v c : ℕ) → Node m v → Cost k c → NoMore k (after j v) c → NoMore k (after (suc j) v) c
    stays_under v c nd cc' (b, e, l) =
        let at = cost_at_node (λ (x : ℕ). least_to k m (after j) x m.count) m.count v nd.0 nd.1 in
        let h = least_known k laws m (after j) v (held v) (held_more v) m.count b e in
        subst⁻¹ (λ (o : Option ℕ). NoMore k o c) at (no_more k laws (least_cost k laws m (after j) v (held v) (held_more v) m.count) (held v b e) cc' h l)

    line_under : (us : List ℕ) (u v : ℕ) → Path m r v (u ∷ us) → NoMore k (after j u) (cost k m u us) → NoMore k (after (suc j) v) (cost k m v (u ∷ us))
    line_under us u v p (b, e, l) =
        let nu = path_node m sound r root us u p.2 in
        let nv = sound.leads u v p.0 in
        let at = cost_at_node (λ (x : ℕ). least_to k m (after j) x m.count) m.count v nv.0 nv.1 in
        let h = least_line k laws m (after j) v (held v) (held_more v) m.count u b nu.0 nu.1 p.0 e in
        subst⁻¹ (λ (o : Option ℕ). NoMore k o (cost k m v (u ∷ us))) at
        (no_more k laws (least_cost k laws m (after j) v (held v) (held_more v) m.count) (held_more v u b p.0 e) (costs_of (u ∷ us) v p) h
        (laws.keeps b (cost k m u us) (m.figure u v) (held u b e) (costs_of us u p.2) (p.0, sound.fits u v) l))

  known : (j : ℕ) → j ≤ 64 → (v c : ℕ) → after j v ≡ Some c → Known j v c
  known zero le v c e =
      let (here, is) = at_start v c e in (
        [],
        here,
        subst⁻¹ (AtMost k k.empty) is (laws.irreflexive k.empty (costs_of [] r refl)),
        record { lines = 0; few = omega arith; path = subst⁻¹ (PathCost k 0) is none },
      )
  known (suc j) le v c e = known_step j le (known j (omega arith)) v c e

  -- after j rounds a cost is no more than that of any path of at most j lines
  under : (j : ℕ) → j ≤ 64 → (us : List ℕ) (v : ℕ) → Path m r v us → length us ≤ j → NoMore k (after j v) (cost k m v us)
  under zero le (u ∷ us) v p few = absurd (omega arith)
  under zero le [] v p few = (
    k.empty,
    cost_at_node (λ (x : ℕ). cond (eqb x r) (Some k.empty) None) m.count v (path_node m sound r root [] v p).0 (path_node m sound r root [] v p).1
        ∙ cond-true (eqb v r) (Some k.empty) None (eq-eqb v r p),
    laws.irreflexive k.empty (costs_of [] r refl),
  )
  under (suc j) le [] v p few = stays_under j le (known j (omega arith)) v k.empty (path_node m sound r root [] v p) (costs_of [] r refl) (under j (omega arith) [] v p (omega arith))
  under (suc j) le (u ∷ us) v p few = line_under j le (known j (omega arith)) us u v p (under j (omega arith) us u p.2 (omega arith))

  -- no path has as many lines as there are nodes
  pub distances_right : (v : ℕ) → Distance k m r v (distances k m r v)
  unfolding distances
  distances_right v = go (after m.count v) refl
    where
      all : (us : List ℕ) → Path m r v us → NoMore k (after m.count v) (cost k m v us)
      all us p = under m.count sound.small us v p (omega (arith, path_few m sound r root us v p))

      go : (o : Option ℕ) → after m.count v ≡ o → Distance k m r v o
      go None e = λ us p. none_some e (all us p).1
      go (Some c) e =
          let (ws, p, l, w) = known m.count sound.small v c e in
          let least : (us : List ℕ) → Path m r v us → AtMost k c (cost k m v us) = λ us q. let (b, eb, lb) = all us q in subst (λ (x : ℕ). AtMost k x (cost k m v us)) (some_same eb e) lb in
          ((ws, p, at_most_same k laws (costs_of ws v p) (up_to sound.small w) l (least ws p)), least)
