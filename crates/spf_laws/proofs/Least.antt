-- A table of path costs that no line improves is the table of the distances. Assumes nothing.
use Rattle.std.proofs.Common.{◌≡◌, ℕ, false, List, [], ◌∷◌, Some, None, Option, sym, refl, subst}
use Rattle.metric.specs.Meaning.{Meaning, Cost}
use Rattle.metric.specs.Laws.{Laws}
use Rattle.spf.specs.Maps.{Map, Node, Joined, Sound}
use Rattle.spf.specs.Paths.{Path, cost}
use Rattle.spf.specs.Routes.{Distance}
use Rattle.spf_laws.specs.Tables.{Table}
use Rattle.spf_laws.proofs.Options.{some_same, none_some}
use Rattle.spf_laws.proofs.Orders.{NoMore, at_most_trans}
use Rattle.spf_laws.proofs.Paths.{path_is_cost, path_cost_more}

module _ (k : Meaning) (laws : Laws k) (m : Map) (sound : Sound m) (r : ℕ) (root : Node m r) (d : ℕ → Option ℕ) (table : Table k m r d) where
  pub known_cost : {v c : ℕ} → d v ≡ Some c → Cost k c
  known_cost {v} {c} e = let w = table.reached v c e in subst (λ (x : ℕ). Cost k x) w.2 (path_is_cost m sound r root k w.0 v w.1)

  pub known_cost_more : {u v a : ℕ} → d u ≡ Some a → Joined m u v → Cost k (k.add a (m.figure u v))
  known_cost_more {u} {v} {a} e j = let w = table.reached u a e in subst (λ (x : ℕ). Cost k (k.add x (m.figure u v))) w.2 (path_cost_more m sound r root k w.0 u v w.1 j)

  pub least : (us : List ℕ) (v : ℕ) → Path m r v us → NoMore k (d v) (cost k m v us)
  least [] v p = let b = table.begins in (b.0, (subst (λ (x : ℕ). d x ≡ Some b.0) (sym p) b.1), b.2)
  least (u ∷ us) v p =
      let (a, da, la) = least us u p.2 in
      let (b, db, lb) = table.closed u v a p.0 da in (
        b,
        db,
        at_most_trans k laws (known_cost db) (known_cost_more da p.0) (path_is_cost m sound r root k (u ∷ us) v p) lb
            (laws.keeps a (cost k m u us) (m.figure u v) (known_cost da) (path_is_cost m sound r root k us u p.2) (p.0, sound.fits u v) la),
      )

  pub right : (v : ℕ) → Distance k m r v (d v)
  right v = go (d v) refl
    where
      go : (o : Option ℕ) → d v ≡ o → Distance k m r v o
      go None e = λ us p. none_some e (least us v p).1
      go (Some c) e = (table.reached v c e, λ us p. let (b, db, lb) = least us v p in subst (λ (x : ℕ). k.less (cost k m v us) x ≡ false) (some_same db e) lb)
