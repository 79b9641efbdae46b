-- A course, from where a walk is to where it began. Assumes nothing.
use Rattle.std.proofs.Common.{◌≡◌, ℕ, zero, suc, ◌+◌, ◌-◌, ◌<◌, ◌≤◌, List, [], ◌∷◌, ◌++◌, length, get_or, take, set, replicate, sym, refl, ap, ◌∙◌, append_assoc, arith, length-set, take-suc, get_or-set_same}
use lib.ListN.{length-replicate}
use lib.Seq.{take-set-le}
use Rattle.std.proofs.lemmas.Bool.{eq-eqb, ne_eqb}
use Rattle.spf.specs.declared.route.Route.{Route}
use Rattle.forwarding.specs.declared.walk.End.{End}
use Rattle.forwarding.specs.declared.walk.End.TheVariants.{Arrived, Loop, Lost}
use Rattle.forwarding.specs.Courses.{Course, ends_at, on_from, walk_from}

-- These nodes, and then a course.
abbrev pub before : List ℕ → Course → Course
before xs w = record { nodes = xs ++ w.nodes; end = w.end }

module _ (hop : ℕ → ℕ) (d : ℕ) where
  pub arrived : (n a : ℕ) → a ≡ d → walk_from hop d n a ≡ ends_at a Arrived
  unfolding walk_from
  arrived zero a e = simp (eq-eqb a d e)
  arrived (suc n) a e = simp (eq-eqb a d e)

  pub looped : (n a : ℕ) → (a ≡ d → ⊥) → n ≡ 0 → walk_from hop d n a ≡ ends_at a Loop
  unfolding walk_from
  looped zero a ne e = simp (ne_eqb a d ne)
  looped (suc n) a ne e = absurd (omega arith)

  asked : (n a : ℕ) → (a ≡ d → ⊥) → walk_from hop d (suc n) a ≡ on_from a (hop a) (walk_from hop d n (hop a))
  unfolding walk_from
  asked n a ne = simp (ne_eqb a d ne)

  pub lost : (n a : ℕ) → (a ≡ d → ⊥) → 1 ≤ n → hop a ≡ 0 → walk_from hop d n a ≡ ends_at a Lost
  lost zero a ne some e = absurd (omega arith)
  lost (suc n) a ne some e = asked n a ne ∙ ap (λ (h : ℕ). on_from a h (walk_from hop d n (hop a))) e

  pub onwards : (n a h : ℕ) → (a ≡ d → ⊥) → hop a ≡ h → 1 ≤ h → walk_from hop d (suc n) a ≡ before (a ∷ []) (walk_from hop d n h)
  onwards n a zero ne e some = absurd (omega arith)
  onwards n a (suc h) ne e some = asked n a ne ∙ ap (λ (x : ℕ). on_from a x (walk_from hop d n x)) e

-- The walk has made so many hops, and is at the node a: its nodes, and the course from there, are the whole course.
pub record Along (shows : ℕ → ℕ → Route) (d limit from : ℕ) (nodes : List ℕ) (made a : ℕ) : Type 0 where
  pub room : length nodes ≡ 65
  pub few : made ≤ limit
  pub here : get_or nodes made 0 ≡ a
  pub whole : before (take made nodes) (walk_from (λ x. (shows x d).hop) d (limit - made) a) ≡ walk_from (λ x. (shows x d).hop) d limit from

abbrev pub course : List ℕ → End → Course
course xs how = record { nodes = xs; end = how }

pub begun : (shows : ℕ → ℕ → Route) (d limit from : ℕ) → Along shows d limit from (from ∷ replicate 64 0) 0 from
begun shows d limit from =
    record {
      room = ap suc (length-replicate {A = ℕ} 64 0);
      few = omega arith;
      here = refl;
      whole = ap (λ (n : ℕ). walk_from (λ x. (shows x d).hop) d n from) (omega arith);
    }

module _ {shows : ℕ → ℕ → Route} {d limit from : ℕ} {nodes : List ℕ} {made a : ℕ} (small : limit ≤ 64) (l : Along shows d limit from nodes made a) where
  one_more : take (suc made) nodes ≡ take made nodes ++ (a ∷ [])
  one_more = take-suc nodes made 0 (omega arith) ∙ ap (λ (x : ℕ). take made nodes ++ (x ∷ [])) l.here

  pub ended : (how : End) → walk_from (λ x. (shows x d).hop) d (limit - made) a ≡ ends_at a how → course (take (suc made) nodes) how ≡ walk_from (λ x. (shows x d).hop) d limit from
  ended how e = ap (λ (xs : List ℕ). course xs how) one_more ∙ sym (ap (before (take made nodes)) e) ∙ l.whole

  pub hopped : (h : ℕ) → (a ≡ d → ⊥) → made < limit → (shows a d).hop ≡ h → 1 ≤ h → Along shows d limit from (set nodes (made + 1) h) (made + 1) h
  hopped h ne less e some =
      record {
        room = length-set nodes (made + 1) h ∙ l.room;
        few = omega arith;
        here = get_or-set_same nodes (made + 1) h 0 (omega arith);
        whole =
            ap (λ (xs : List ℕ). before xs (walk_from (λ x. (shows x d).hop) d (limit - (made + 1)) h)) front
            ∙ ap (λ (xs : List ℕ). course xs (walk_from (λ x. (shows x d).hop) d (limit - (made + 1)) h).end) (append_assoc (take made nodes) (a ∷ []) (walk_from (λ x. (shows x d).hop) d (limit - (made + 1)) h).nodes)
            ∙ ap (before (take made nodes)) (sym turn) ∙ l.whole;
      }
    where
      next : made + 1 ≡ suc made
      next = omega arith

      front : take (made + 1) (set nodes (made + 1) h) ≡ take made nodes ++ (a ∷ [])
      front = take-set-le (made + 1) nodes (made + 1) h (omega arith) ∙ ap (λ (n : ℕ). take n nodes) next ∙ one_more

      left : limit - made ≡ suc (limit - (made + 1))
      left = omega arith

      turn : walk_from (λ x. (shows x d).hop) d (limit - made) a ≡ before (a ∷ []) (walk_from (λ x. (shows x d).hop) d (limit - (made + 1)) h)
      turn = ap (λ (n : ℕ). walk_from (λ x. (shows x d).hop) d n a) left ∙ onwards (λ x. (shows x d).hop) d (limit - (made + 1)) a h ne e some
