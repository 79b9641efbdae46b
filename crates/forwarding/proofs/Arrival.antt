-- The course where all nodes show their routes of one map under one metric. Assumes nothing.
use Rattle.std.proofs.Common.{◌≡◌, ℕ, zero, suc, ◌-◌, ◌≤◌, min, List, [], ◌∷◌, length, take, None, sym, refl, ap, ◌∙◌, subst, arith}
use Rattle.metric.specs.Meaning.{Meaning}
use Rattle.spf.specs.Maps.{Map, Sound}
use Rattle.spf.specs.Routes.{Distance, Parent, NextHop, nowhere, there, onwards}
use Rattle.spf.specs.Forwarding.{Forwards, Arrives}
use Rattle.spf.specs.declared.route.Route.{Route}
use Rattle.spf_laws.proofs.Forward.{forwarding}
use Rattle.forwarding.specs.declared.walk.End.{End}
use Rattle.forwarding.specs.declared.walk.End.TheVariants.{Arrived}
use Rattle.forwarding.specs.Courses.{Course, hops_of, ends_at, walk_from, walk}
use Rattle.forwarding.specs.Arrival.{Arriving, Absent}
use Rattle.forwarding.specs.Going.{Going}
use Rattle.forwarding.proofs.Going.{going}
use Rattle.forwarding.proofs.Courses.{Along, before, course, ended, arrived, lost, onwards as on}

-- the hops of the theorem are the hops of the walk
follows : (shows : ℕ → ℕ → Route) (m : Map) → Sound m → (d : ℕ) (us : List ℕ) (n a : ℕ) → Forwards shows m d a us → length us ≤ n
    → walk_from (λ x. (shows x d).hop) d n a ≡ record { nodes = a ∷ us; end = Arrived }
follows shows m sound d [] n a w le = arrived (λ x. (shows x d).hop) d n a w
follows shows m sound d (h ∷ us) zero a w le = absurd (omega arith)
follows shows m sound d (h ∷ us) (suc n) a w le =
    on (λ x. (shows x d).hop) d n a h w.0 w.1 (sound.leads a h w.2).0
    ∙ ap (before (a ∷ [])) (follows shows m sound d us n h w.3 (omega arith))

-- a node without a path has no next hop
unled : (k : Meaning) (m : Map) (r v : ℕ) → Distance k m r v None → (p : ℕ) → Parent k m r v p → 1 ≤ p → ⊥
unled k m r v far zero x some = omega arith
unled k m r v far (suc p) x some = far x.1.3.0.0 x.1.3.0.1

no_hop : (k : Meaning) (m : Map) (r : ℕ) {v h : ℕ} → NextHop k m r v h → Distance k m r v None → h ≡ 0
no_hop k m r (nowhere p) far = refl
no_hop k m r (there {v} p low) far = absurd (unled k m r v far r p low)
no_hop k m r (onwards {v} p x low other further) far = absurd (unled k m r v far p x low)

-- All that is promised of a walk.
pub record Walked (shows : ℕ → ℕ → Route) (count a d : ℕ) (w : Course) : Type 0 where
  pub value : w ≡ walk shows count a d
  pub going : Going shows count a d w
  pub arrives : Arriving shows count a d w
  pub absent : Absent shows count a d w

module _ (shows : ℕ → ℕ → Route) (count a d : ℕ) where
  pub arriving : Arriving shows count a d (walk shows count a d)
  arriving k m one na nd c e =
      let (us, w) = forwarding k one.laws m one.sound shows one.shown a d c na nd e in
      let is : walk shows count a d ≡ record { nodes = a ∷ us; end = Arrived } =
      follows shows m one.sound d us (min count 64) a w.hops (omega (arith, w.few, one.sound.small, one.counts)) in
      (ap (λ (x : Course). x.end) is, subst (λ (x : Course). Arrives k m shows a d c (hops_of x)) (sym is) w)

  pub absent : Absent shows count a d (walk shows count a d)
  absent k m one na nd e =
      let route = one.shown a d na nd in
      let far : Distance k m a d None = subst (Distance k m a d) e route.distance in
      let ne : a ≡ d → ⊥ = λ q. far [] (sym q) in
      (lost (λ x. (shows x d).hop) d (min count 64) a ne (omega (arith, one.counts, na)) (no_hop k m a route.hop far), ne)

  -- what is promised of a walk that ended so holds of it
  pub held : (limit : ℕ) → limit ≡ min count 64 → {nodes : List ℕ} {made x : ℕ} → Along shows d limit a nodes made x → (how : End) → walk_from (λ y. (shows y d).hop) d (limit - made) x ≡ ends_at x how
      → Walked shows count a d (course (take (suc made) nodes) how)
  held limit e along how ends =
      let small : limit ≤ 64 = omega arith in
      let is = ended small along how ends ∙ ap (λ (n : ℕ). walk_from (λ y. (shows y d).hop) d n a) e in
      let back = sym is in
      record { value = is; going = subst (Going shows count a d) back (going shows count a d); arrives = subst (Arriving shows count a d) back arriving; absent = subst (Absent shows count a d) back absent }
