-- Settling the nearest node keeps what the search keeps. Assumes nothing.
use Rattle.std.proofs.Common.{◌≡◌, ℕ, zero, suc, ◌≤◌, Bool, true, false, cond, ◌⊎◌, List, [], ◌∷◌, Some, None, Option, sym, refl, ap, ◌∙◌, subst, inl, inr, arith}
use mathlib.Core.Path.{subst⁻¹}
use Rattle.std.proofs.lemmas.Bool.{both_ways, cases_Bool, cases_eq}
use Rattle.metric.specs.Meaning.{Meaning, Cost}
use Rattle.metric.specs.Laws.{Laws}
use Rattle.spf.specs.Maps.{Map, Node, Joined, Sound}
use Rattle.spf.specs.Paths.{Apart, Path, cost}
use Rattle.spf.specs.Reckoning.{lesser, brought}
use Rattle.spf_laws.specs.Tables.{Table}
use Rattle.spf_laws.specs.Searches.{Going}
use Rattle.spf_laws.proofs.Orders.{AtMost, at_most_trans, less_at_most}
use Rattle.spf_laws.proofs.Paths.{path_is_cost, path_cost_more}
use Rattle.spf_laws.proofs.Options.{some_same, none_some}
use Rattle.spf_laws.proofs.Visits.{line_more, visits_before}

-- What is left of a cost after an offer: as it was, and then no more than the offer, or the offer, and then less than it was.
abbrev pub View : Meaning → ℕ → ℕ → Option ℕ → Option ℕ → Type 0
View k a f o o' =
    ((o' ≡ o) × (1 ≤ f → (b : ℕ) × (o ≡ Some b) × AtMost k b (k.add a f)))
    ⊎ ((1 ≤ f) × (o' ≡ Some (k.add a f)) × ((b : ℕ) → o ≡ Some b → k.less (k.add a f) b ≡ true))

view_some : (k : Meaning) (a f b : ℕ) → 1 ≤ f → (t : Bool) → k.less (k.add a f) b ≡ t → View k a f (Some b) (cond t (Some (k.add a f)) (Some b))
view_some k a f b h true e = inr (h, refl, λ c q. subst (λ (x : ℕ). k.less (k.add a f) x ≡ true) (some_same refl q) e)
view_some k a f b h false e = inl (refl, λ _. (b, refl, e))

view : (k : Meaning) (a f : ℕ) (o : Option ℕ) → View k a f o (lesser k o (brought k f (Some a)))
view k a zero None = inl (refl, λ h. absurd (omega arith))
view k a zero (Some b) = inl (refl, λ h. absurd (omega arith))
view k a (suc g) None = inr (omega arith, refl, λ b e. absurd (none_some refl e))
view k a (suc g) (Some b) = view_some k a (suc g) b (omega arith) (k.less (k.add a (suc g)) b) refl

module _ (k : Meaning) (laws : Laws k) (m : Map) (sound : Sound m) (r : ℕ) (root : Node m r) where
  module _ (t : ℕ → Option ℕ) (s : ℕ → Bool) (going : Going k m r t s) where
    pub cost_of : {v c : ℕ} → t v ≡ Some c → Cost k c
    cost_of {v} {c} e = let w = going.reached v c e in subst (λ (x : ℕ). Cost k x) w.2 (path_is_cost m sound r root k w.0 v w.1)

    cost_more : {u v a : ℕ} → t u ≡ Some a → Joined m u v → Cost k (k.add a (m.figure u v))
    cost_more {u} {v} {a} e j = let w = going.reached u a e in subst (λ (x : ℕ). Cost k (k.add x (m.figure u v))) w.2 (path_cost_more m sound r root k w.0 u v w.1 j)

    -- when no node waits, no line improves the costs
    pub finish : ((w c : ℕ) → s w ≡ false → t w ≡ Some c → ⊥) → Table k m r t
    finish over = record {
      begins = going.begins;
      reached = going.reached;
      closed = λ u v a j e. elim (cases_Bool (s u)) [ inl y ↦ going.closed u v a y j e | inr n ↦ absurd (over u a n e) ];
    }

    -- the end of a path costs no more than the path, or a node that waits does
    soon : (us : List ℕ) (v : ℕ) → Path m r v us
        → ((b : ℕ) × (t v ≡ Some b) × AtMost k b (cost k m v us)) ⊎ ((x : ℕ) × (c : ℕ) × (s x ≡ false) × (t x ≡ Some c) × AtMost k c (cost k m v us))
    soon [] v p = let (b, e, le) = going.begins in inl (b, subst⁻¹ (λ (x : ℕ). t x ≡ Some b) p e, le)
    soon (u ∷ us) v p =
        let cu = path_is_cost m sound r root k us u p.2 in
        let cv = path_is_cost m sound r root k (u ∷ us) v p in
        let up : AtMost k (cost k m u us) (cost k m v (u ∷ us)) = less_at_most k laws cu cv (line_more k laws m sound r root us u v p.2 p.0) in
        elim (soon us u p.2) [
          | inl (a, e, le) ↦ elim (cases_Bool (s u)) [
            | inl y ↦ let (b, eb, lb) = going.closed u v a y p.0 e in
                inl (b, eb, at_most_trans k laws (cost_of eb) (cost_more e p.0) cv lb (laws.keeps a (cost k m u us) (m.figure u v) (cost_of e) cu (p.0, sound.fits u v) le))
            | inr n ↦ inr (u, a, n, e, at_most_trans k laws (cost_of e) cu cv le up)
          ]
          | inr (x, c, n, e, le) ↦ inr (x, c, n, e, at_most_trans k laws (cost_of e) cu cv le up)
        ]

  module _ (t t' : ℕ → Option ℕ) (s s' : ℕ → Bool) (going : Going k m r t s) (u a : ℕ) (fresh : s u ≡ false) (here : t u ≡ Some a)
      (nearest : (w c : ℕ) → s w ≡ false → t w ≡ Some c → AtMost k a c) (done : s' u ≡ true) (others : (w : ℕ) → (w ≡ u → ⊥) → s' w ≡ s w)
      (moved : (v : ℕ) → t' v ≡ lesser k (t v) (brought k (m.figure u v) (Some a))) where
    seen : (v : ℕ) → View k a (m.figure u v) (t v) (t' v)
    seen v = subst (λ (o : Option ℕ). View k a (m.figure u v) (t v) o) (sym (moved v)) (view k a (m.figure u v) (t v))

    was : (w : ℕ) → s' w ≡ false → s w ≡ false
    was w e = elim (cases_eq w u) [ inl q ↦ absurd (both_ways (s' w) e (ap s' q ∙ done)) | inr n ↦ sym (others w n) ∙ e ]

    had : (w : ℕ) → (w ≡ u → ⊥) → s' w ≡ true → s w ≡ true
    had w n e = sym (others w n) ∙ e

    ca : Cost k a
    ca = cost_of t s going here

    co : {v : ℕ} → Joined m u v → Cost k (k.add a (m.figure u v))
    co j = cost_more t s going here j

    up_less : {v : ℕ} → Joined m u v → k.less a (k.add a (m.figure u v)) ≡ true
    up_less {v} j = laws.rises a (m.figure u v) ca (j, sound.fits u v)

    up : {v : ℕ} → Joined m u v → AtMost k a (k.add a (m.figure u v))
    up {v} j = less_at_most k laws ca (co j) (up_less j)

    -- what is settled costs at most what is settled now
    pub below : (v : ℕ) → s' v ≡ true → (b : ℕ) × (t v ≡ Some b) × AtMost k b a
    below v e = elim (cases_eq v u) [
      | inl q ↦ (a, ap t q ∙ here, laws.irreflexive a ca)
      | inr n ↦ let (b, eb) = going.known v (had v n e) in (b, eb, going.ahead v u b a (had v n e) fresh eb here)
    ]

    -- so a line from there offers more
    pub above : (v : ℕ) → s' v ≡ true → Joined m u v → (b : ℕ) × (t v ≡ Some b) × (k.less b (k.add a (m.figure u v)) ≡ true)
    above v e j =
        let (b, eb, le) = below v e in
        let cb = cost_of t s going eb in
        (b, eb, less_of b cb le (laws.total a b ca cb))
      where
        less_of : (b : ℕ) → Cost k b → AtMost k b a → (k.less a b ≡ true) ⊎ ((a ≡ b) ⊎ (k.less b a ≡ true)) → k.less b (k.add a (m.figure u v)) ≡ true
        less_of b cb le (inl l) = absurd (both_ways (k.less a b) le l)
        less_of b cb le (inr (inl q)) = subst (λ (x : ℕ). k.less x (k.add a (m.figure u v)) ≡ true) q (up_less j)
        less_of b cb le (inr (inr l)) = laws.transitive b a (k.add a (m.figure u v)) cb ca (co j) l (up_less j)

    pub kept : (v : ℕ) → s' v ≡ true → t' v ≡ t v
    kept v e = elim (seen v) [
      | inl w ↦ w.0
      | inr w ↦
          let (b, eb, l) = above v e w.0 in
          let cb = cost_of t s going eb in
          absurd (both_ways (k.less b b) (laws.irreflexive b cb) (laws.transitive b (k.add a (m.figure u v)) b cb (co w.0) cb l (w.2 b eb)))
    ]

    lower : (v b : ℕ) → t v ≡ Some b → (b' : ℕ) × (t' v ≡ Some b') × Cost k b' × AtMost k b' b
    lower v b e = elim (seen v) [
      | inl w ↦ (b, w.0 ∙ e, cost_of t s going e, laws.irreflexive b (cost_of t s going e))
      | inr w ↦ (k.add a (m.figure u v), w.1, co w.0, less_at_most k laws (co w.0) (cost_of t s going e) (w.2 b e))
    ]

    -- no path to a node that waits costs less than the nearest one
    least_path : (ws : List ℕ) (v : ℕ) → Path m r v ws → s v ≡ false → AtMost k a (cost k m v ws)
    least_path ws v p e = elim (soon t s going ws v p) [
      | inl (b, eb, le) ↦ at_most_trans k laws ca (cost_of t s going eb) (path_is_cost m sound r root k ws v p) (nearest v b e eb) le
      | inr (x, c, n, ex, le) ↦ at_most_trans k laws ca (cost_of t s going ex) (path_is_cost m sound r root k ws v p) (nearest x c n ex) le
    ]

    reached_by_lem : (v c : ℕ) → s' v ≡ false → Joined m u v → k.add a (m.figure u v) ≡ c → (us : List ℕ) × Path m r v us × (cost k m v us ≡ c)
    reached_by_lem v c e j q =
        let (us, p, z) = going.reached u a here in
        let n : v ≡ u → ⊥ = λ x. both_ways (s' v) e (ap s' x ∙ done) in
        let away : Apart v us = elim (visits_before k laws m sound r root us u p v) [
          | inl x ↦ x
          | inr (ws, pw, l) ↦ absurd (both_ways (k.less (cost k m v ws) a) (least_path ws v pw (was v e)) (subst (λ (x : ℕ). k.less (cost k m v ws) x ≡ true) z l))
        ] in
        (u ∷ us, (j, (n, away), p), ap (λ (y : ℕ). k.add y (m.figure u v)) z ∙ q)

    reached' : (v c : ℕ) → t' v ≡ Some c → (us : List ℕ) × Path m r v us × (cost k m v us ≡ c)
    reached' v c e = elim (cases_Bool (s' v)) [
      | inl y ↦ going.reached v c (sym (kept v y) ∙ e)
      | inr n ↦ elim (seen v) [
        | inl w ↦ going.reached v c (sym w.0 ∙ e)
        | inr w ↦ reached_by_lem v c n w.0 (some_same w.1 e)
      ]
    ]

    known' : (w : ℕ) → s' w ≡ true → (c : ℕ) × (t' w ≡ Some c)
    known' w e = let (b, eb, le) = below w e in (b, kept w e ∙ eb)

    closed_here : (v : ℕ) → Joined m u v → (b : ℕ) × (t' v ≡ Some b) × AtMost k b (k.add a (m.figure u v))
    closed_here v j = elim (seen v) [
      | inl w ↦ let x = w.1 j in (x.0, w.0 ∙ x.1, x.2)
      | inr w ↦ (k.add a (m.figure u v), w.1, laws.irreflexive (k.add a (m.figure u v)) (co j))
    ]

    closed' : (x v c : ℕ) → s' x ≡ true → Joined m x v → t' x ≡ Some c → (b : ℕ) × (t' v ≡ Some b) × AtMost k b (k.add c (m.figure x v))
    closed' x v c e j tx = elim (cases_eq x u) [
      | inl q ↦
          let c-is : a ≡ c = some_same (kept x e ∙ ap t q ∙ here) tx in
          let h = closed_here v (subst (λ (y : ℕ). Joined m y v) q j) in
          (h.0, h.1, subst (λ (y : ℕ). AtMost k h.0 (k.add c (m.figure y v))) (sym q) (subst (λ (y : ℕ). AtMost k h.0 (k.add y (m.figure u v))) c-is h.2))
      | inr n ↦
          let old : t x ≡ Some c = sym (kept x e) ∙ tx in
          let h = going.closed x v c (had x n e) j old in
          let l = lower v h.0 h.1 in
          (l.0, l.1, at_most_trans k laws l.2 (cost_of t s going h.1) (cost_more t s going old j) l.3 h.2)
    ]

    ahead' : (x w b c : ℕ) → s' x ≡ true → s' w ≡ false → t' x ≡ Some b → t' w ≡ Some c → AtMost k b c
    ahead' x w b c ex ew tx tw =
        let (b₀, eb, le) = below x ex in
        let q : b₀ ≡ b = some_same (kept x ex ∙ eb) tx in
        let low : AtMost k b a = subst (λ (y : ℕ). AtMost k y a) q le in
        let cb : Cost k b = subst (λ (y : ℕ). Cost k y) q (cost_of t s going eb) in
        elim (seen w) [
          | inl v ↦ let old : t w ≡ Some c = sym v.0 ∙ tw in at_most_trans k laws cb ca (cost_of t s going old) low (nearest w c (was w ew) old)
          | inr v ↦
              let e : k.add a (m.figure u w) ≡ c = some_same v.1 tw in
              subst (λ (y : ℕ). AtMost k b y) e (at_most_trans k laws cb ca (co v.0) low (up v.0))
        ]

    pub step : Going k m r t' s'
    step = record {
      begins = let b = going.begins in let l = lower r b.0 b.1 in
          (l.0, l.1, at_most_trans k laws l.2 (cost_of t s going b.1) (path_is_cost m sound r root k [] r refl) l.3 b.2);
      reached = reached';
      known = known';
      closed = closed';
      ahead = ahead';
    }
