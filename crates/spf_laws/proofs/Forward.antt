-- Forwarding ends, and costs the distance. Assumes nothing.
use Rattle.std.proofs.Common.{◌≡◌, ℕ, zero, suc, ◌+◌, ◌-◌, ◌<◌, ◌≤◌, true, false, ◌⊎◌, List, [], ◌∷◌, ◌++◌, length, Some, None, Option, sym, refl, ap, ◌∙◌, subst, inl, inr, arith}
use mathlib.Core.Path.{subst⁻¹}
use Rattle.std.proofs.lemmas.Bool.{both_ways, cases_eq}
use Rattle.metric.specs.Meaning.{Meaning, Cost, Figure, PathCost, none, more}
use Rattle.metric.specs.Laws.{Laws}
use Rattle.spf.specs.Maps.{Map, Node, Joined, Sound}
use Rattle.spf.specs.Paths.{Apart, Path, cost}
use Rattle.spf.specs.Routes.{Distance, NextHop, nowhere, there, onwards, IsRoute}
use Rattle.spf.specs.Forwarding.{Forwards, cost_from, AllShow, Arrives}
use Rattle.spf.specs.declared.route.Route.{Route}
use Rattle.spf_laws.proofs.Visits.{empty_least}
use Rattle.spf_laws.proofs.Orders.{AtMost, at_most_trans, at_most_same, less_at_most}
use Rattle.spf_laws.proofs.Paths.{path_is_cost, path_few, path_cost}
use Rattle.spf_laws.proofs.Unique.{distance_cost, unique, parent_leads}
use Rattle.spf_laws.proofs.Ranks.{rank, rank_falls, rank_few}

module _ (k : Meaning) (laws : Laws k) (m : Map) (sound : Sound m) where
  pub distance_self : {r c : ℕ} → Node m r → Distance k m r r (Some c) → c ≡ k.empty
  distance_self {r} {c} nr h = unique k laws m sound r nr h (([], refl, refl), λ us p. empty_least k laws m sound r nr us r p)

  apart_push : (v a : ℕ) (us : List ℕ) → Apart v us → (v ≡ a → ⊥) → Apart v (us ++ (a ∷ []))
  apart_push v a [] h n = (n, tt)
  apart_push v a (u ∷ us) h n = (h.0, apart_push v a us h.1 n)

  -- a line in front of a path
  front : (a h : ℕ) → Node m h → Joined m a h → (ws : List ℕ) (v : ℕ) → Path m h v ws → (v ≡ a → ⊥) → Apart a ws
      → Path m a v (ws ++ (a ∷ [])) × (cost k m v (ws ++ (a ∷ [])) ≡ k.add (cost k m v ws) (m.figure a h))
  front a h nh j [] v p n ap' = ((subst⁻¹ (λ (x : ℕ). Joined m a x) p j, (n, tt), refl), ap (λ (x : ℕ). k.add k.empty (m.figure a x)) p)
  front a h nh j (u ∷ us) v p n ap' =
      let (q, e) = front a h nh j us u p.2 (λ z. ap'.0 (sym z)) ap'.1 in
      let f = m.figure a h in
      let g = m.figure u v in (
        (p.0, apart_push v a (u ∷ us) p.1 n, q),
        ap (λ (x : ℕ). k.add x g) e ∙ laws.swaps (cost k m u us) f g (path_is_cost m sound h nh k us u p.2) (j, sound.fits a h) (p.0, sound.fits u v),
      )

  -- a path misses a, or can be cut to begin at a, and then costs no more
  cut : (a h : ℕ) → Node m a → Node m h → (ws : List ℕ) (v : ℕ) → Path m h v ws
      → ((v ≡ a → ⊥) × Apart a ws) ⊎ ((us : List ℕ) × Path m a v us × AtMost k (cost k m v us) (cost k m v ws) × ((x : ℕ) → Apart x ws → Apart x us))
  cut a h na nh [] v p = elim (cases_eq v a) [
    | inl e ↦ inr ([], e, laws.irreflexive k.empty (path_is_cost m sound h nh k [] h refl), λ x y. y)
    | inr n ↦ inl (n, tt)
  ]
  cut a h na nh (u ∷ ws) v p = elim (cases_eq v a) [
    | inl e ↦ inr ([], e, empty_least k laws m sound h nh (u ∷ ws) v p, λ x y. tt)
    | inr n ↦ elim (cut a h na nh ws u p.2) [
      | inl miss ↦ inl (n, ((λ z. miss.0 (sym z)), miss.1))
      | inr c ↦ inr (
        u ∷ c.0,
        (p.0, (p.1.0, c.3 v p.1.1), c.1),
        laws.keeps (cost k m u c.0) (cost k m u ws) (m.figure u v) (path_is_cost m sound a na k c.0 u c.1) (path_is_cost m sound h nh k ws u p.2) (p.0, sound.fits u v) c.2,
        λ x y. (y.0, c.3 x y.1),
      )
    ]
  ]

  -- the nodes of a list are at most c away from a
  abbrev Within : ℕ → ℕ → List ℕ → Type 0
  Within a c [] = Unit {0}
  Within a c (u ∷ us) = ((y : ℕ) × Distance k m a u (Some y) × AtMost k y c) × Within a c us

  within_more : (a : ℕ) → Node m a → {b c : ℕ} → Cost k b → Cost k c → AtMost k b c → (us : List ℕ) → Within a b us → Within a c us
  within_more a na cb cc' h [] w = tt
  within_more a na cb cc' h (u ∷ us) w =
      ((w.0.0, w.0.1, at_most_trans k laws (distance_cost k laws m sound a na w.0.1) cb cc' w.0.2 h), within_more a na cb cc' h us w.1)

  -- a node further than c is none of those within c
  within_apart : (a : ℕ) → Node m a → {v b c : ℕ} → Distance k m a v (Some c) → k.less b c ≡ true → (us : List ℕ) → Within a b us → Apart v us
  within_apart a na dv l [] w = tt
  within_apart a na {v} {b} {c} dv l (u ∷ us) w = (
    λ e. let q : c ≡ w.0.0 = unique k laws m sound a na dv (subst⁻¹ (λ (x : ℕ). Distance k m a x (Some w.0.0)) e w.0.1) in
        both_ways (k.less b c) (subst⁻¹ (λ (x : ℕ). k.less b x ≡ false) q w.0.2) l,
    within_apart a na dv l us w.1,
  )

  -- the way through the next hop: a line to it, and from it a path
  pub through : (a : ℕ) → Node m a → {v h : ℕ} → NextHop k m a v h → (c : ℕ) → Distance k m a v (Some c) → (v ≡ a → ⊥)
      → (ws : List ℕ) × Joined m a h × Path m h v ws × (k.add (cost k m v ws) (m.figure a h) ≡ c) × Within a c (v ∷ ws)
  through a na (nowhere (inl e)) c dv n = absurd (n e)
  through a na (nowhere (inr e)) c dv n = absurd (e dv.0.0 dv.0.1)
  through a na (there {v} par low) c dv n =
      let (x, y, dx, dy, j, q) = parent_leads k laws m sound a na a par low in
      let e : x ≡ k.empty = distance_self na dx in (
        [],
        j,
        refl,
        ap (λ (z : ℕ). k.add z (m.figure a v)) (sym e) ∙ q ∙ unique k laws m sound a na dy dv,
        ((c, dv, laws.irreflexive c (distance_cost k laws m sound a na dv)), tt),
      )
  through a na (onwards {v} {h} p par low np hp) c dv n =
      let (x, y, dx, dy, j, q) = parent_leads k laws m sound a na p par low in
      let (ws, jh, path, e, w) = through a na hp x dx np in
      let nh = sound.leads a h jh in
      let f = m.figure a h in
      let g = m.figure p v in
      let yc : y ≡ c = unique k laws m sound a na dy dv in
      let cx = distance_cost k laws m sound a na dx in
      let cc' = distance_cost k laws m sound a na dv in
      let l : k.less x c ≡ true = subst (λ (z : ℕ). k.less x z ≡ true) (q ∙ yc) (laws.rises x g cx (j, sound.fits p v)) in (
        p ∷ ws,
        jh,
        (j, within_apart a na dv l (p ∷ ws) w, path),
        laws.swaps (cost k m p ws) g f (path_is_cost m sound h nh k ws p path) (j, sound.fits p v) (jh, sound.fits a h) ∙ ap (λ (z : ℕ). k.add z g) e ∙ q ∙ yc,
        ((c, dv, laws.irreflexive c cc'), within_more a na cx cc' (less_at_most k laws cx cc' l) (p ∷ ws) w),
      )

  -- the distance from a is the distance from its next hop, with the figure of the line to it added
  pub one_hop : (a h v c b : ℕ) → Node m a → Node m h → Joined m a h → (ws : List ℕ) → Path m h v ws → k.add (cost k m v ws) (m.figure a h) ≡ c
      → Distance k m a v (Some c) → Distance k m h v (Some b) → k.add b (m.figure a h) ≡ c
  one_hop a h v c b na nh j ws p e da dh =
      let f = m.figure a h in
      let us = dh.0.0 in
      let pu = dh.0.1 in
      let eb = dh.0.2 in
      let cb = distance_cost k laws m sound h nh dh in
      let cc' = distance_cost k laws m sound a na da in
      let cw = path_is_cost m sound h nh k ws v p in
      let cbf : Cost k (k.add b f) = record {
        lines = suc (length us);
        few = omega (arith, path_few m sound h nh us v pu, sound.small);
        path = more f (j, sound.fits a h) (subst (λ (x : ℕ). PathCost k (length us) x) eb (path_cost m sound h nh k us v pu));
      } in
      let up : AtMost k (k.add b f) c = subst (λ (x : ℕ). AtMost k (k.add b f) x) e (laws.keeps b (cost k m v ws) f cb cw (j, sound.fits a h) (dh.1 ws p)) in
      let down : AtMost k c (k.add b f) = elim (cut a h na nh us v pu) [
        | inl miss ↦ let (q, z) = front a h nh j us v pu miss.0 miss.1 in
            subst (λ (x : ℕ). AtMost k c x) (z ∙ ap (λ (y : ℕ). k.add y f) eb) (da.1 (us ++ (a ∷ [])) q)
        | inr x ↦
            let cx = path_is_cost m sound a na k x.0 v x.1 in
            at_most_trans k laws cc' cx cbf (da.1 x.0 x.1)
            (at_most_trans k laws cx cb cbf (subst (λ (y : ℕ). AtMost k (cost k m v x.0) y) eb x.2) (less_at_most k laws cb cbf (laws.rises b f cb (j, sound.fits a h))))
      ] in
      at_most_same k laws cbf cc' up down

  -- a figure added first is a figure added last
  add_last : (shows : ℕ → ℕ → Route) (d : ℕ) (us : List ℕ) (a c f j : ℕ) → Figure f → PathCost k j c → j + length us ≤ 64 → Forwards shows m d a us
      → cost_from k m (k.add c f) a us ≡ k.add (cost_from k m c a us) f
  add_last shows d [] a c f j ok pc le w = refl
  add_last shows d (h ∷ us) a c f j ok pc le w =
      let g = m.figure a h in
      let okg : Figure g = (w.2, sound.fits a h) in
      ap (λ (x : ℕ). cost_from k m x h us) (laws.swaps c f g (record { lines = j; few = omega arith; path = pc }) ok okg)
      ∙ add_last shows d us h (k.add c g) f (suc j) ok (more g okg pc) (omega arith) w.3

  module _ (shows : ℕ → ℕ → Route) (d : ℕ) (right : (x : ℕ) → Node m x → IsRoute k m x d (shows x d)) where
    gives : {x c : ℕ} → Node m x → (shows x d).distance ≡ Some c → Distance k m x d (Some c)
    gives {x} nx e = subst (Distance k m x d) e (right x nx).distance

    present : {x : ℕ} → Node m x → (ws : List ℕ) → Path m x d ws → (c : ℕ) × ((shows x d).distance ≡ Some c)
    present {x} nx ws p = go (shows x d).distance refl
      where
        go : (o : Option ℕ) → (shows x d).distance ≡ o → (c : ℕ) × ((shows x d).distance ≡ Some c)
        go None e = absurd ((subst (Distance k m x d) e (right x nx).distance) ws p)
        go (Some c) e = (c, e)

    -- what the nodes show as their distances to d
    shown : ℕ → Option ℕ
    shown x = (shows x d).distance

    costs : (w c : ℕ) → 1 ≤ w → w ≤ m.count → shown w ≡ Some c → Cost k c
    unfolding shown
    costs w c low high e = distance_cost k laws m sound w (low, high) (gives (low, high) e)

    next : (a c : ℕ) → Node m a → (shows a d).distance ≡ Some c → (a ≡ d → ⊥)
        → (b : ℕ) × Node m (shows a d).hop × Joined m a (shows a d).hop × ((shows (shows a d).hop d).distance ≡ Some b) × (k.add b (m.figure a (shows a d).hop) ≡ c) × (rank k m.count shown (shows a d).hop < rank k m.count shown a)
    unfolding shown
    next a c na e n =
        let h = (shows a d).hop in
        let (ws, j, p, q, w) = through a na (right a na).hop c (gives na e) (λ z. n (sym z)) in
        let nh = sound.leads a h j in
        let (b, eb) = present nh ws p in
        let add_is : k.add b (m.figure a h) ≡ c = one_hop a h d c b na nh j ws p q (gives na e) (gives nh eb) in
        let l : k.less b c ≡ true = subst (λ (x : ℕ). k.less b x ≡ true) add_is (laws.rises b (m.figure a h) (distance_cost k laws m sound h nh (gives nh eb)) (j, sound.fits a h)) in
        (b, nh, j, eb, add_is, rank_falls k laws m.count shown costs h a b c nh.0 nh.1 (costs a c na.0 na.1 e) eb e l)

    stop : (a c : ℕ) → Node m a → (shows a d).distance ≡ Some c → a ≡ d → k.empty ≡ c
    stop a c na e q = sym (distance_self na (subst⁻¹ (λ (x : ℕ). Distance k m a x (Some c)) q (gives na e)))

    forward : (n a c : ℕ) → n ≤ 64 → Node m a → (shows a d).distance ≡ Some c → rank k m.count shown a ≤ n → (us : List ℕ) × Forwards shows m d a us × (length us ≤ n) × (cost_from k m k.empty a us ≡ c)
    forward zero a c le na e r = elim (cases_eq a d) [
      | inl q ↦ ([], q, omega arith, stop a c na e q)
      | inr x ↦ absurd (omega (arith, (next a c na e x).5))
    ]
    forward (suc n) a c le na e r = elim (cases_eq a d) [
      | inl q ↦ ([], q, omega arith, stop a c na e q)
      | inr x ↦
          let (b, nh, j, eb, add_is, falls) = next a c na e x in
          let (us, w, len, ce) = forward n (shows a d).hop b (omega arith) nh eb (omega arith) in (
            (shows a d).hop ∷ us,
            (x, refl, j, w),
            omega arith,
            add_last shows d us (shows a d).hop k.empty (m.figure a (shows a d).hop) 0 (j, sound.fits a (shows a d).hop) none (omega arith) w ∙ ap (λ (y : ℕ). k.add y (m.figure a (shows a d).hop)) ce ∙ add_is,
          )
    ]

pub forwarding : (k : Meaning) → Laws k → (m : Map) → Sound m → (shows : ℕ → ℕ → Route) → AllShow k m shows → (a d c : ℕ) → Node m a → Node m d → (shows a d).distance ≡ Some c
    → (us : List ℕ) × Arrives k m shows a d c us
unfolding shown
forwarding k laws m sound shows right a d c na nd e =
    let rt : (x : ℕ) → Node m x → IsRoute k m x d (shows x d) = λ x nx. right x d nx nd in
    let r = rank_few k laws m.count (shown k laws m sound shows d rt) (costs k laws m sound shows d rt) a c na.0 na.1 e in
    let (us, w, len, ce) = forward k laws m sound shows d rt (m.count - 1) a c (omega (arith, sound.small)) na e (omega arith) in
    (us, record { hops = w; few = omega (arith, na); costs = ce })
