-- Reports taken one after the other, seen from one origin.
use Rattle.std.proofs.Common.{◌≡◌, ℕ, ◌≤◌, false, List, [], ◌∷◌, length, Ok, sym, refl, ap, ◌∙◌, subst, inl, inr, arith}
use Rattle.std.proofs.lemmas.Bool.{cases_Bool}
use Rattle.std.proofs.lemmas.Bool.Decides.{nat_tests}
use Rattle.std.proofs.lemmas.List.Elements.{All-nil, All-head, All-tail}
use Rattle.std.specs.List.{All}
use Rattle.wire.specs.Reports.{Content}
use Rattle.entries.specs.declared.entry.Entry.{Entry}
use Rattle.entries.specs.Freshness.{ahead, newer}
use Rattle.database.specs.States.{State, held}
use Rattle.database.specs.Taking.{heard, take_state}
use Rattle.database_order.specs.Orders.{taken_all}
use Rattle.database_order.specs.Renewal.{Renews}
use Rattle.database_order.proofs.Serials.{ahead_newer, behind_older}
use Rattle.database_order.proofs.Steps.{taken_alike, step, heard_fair}
use Rattle.database_order.proofs.Bests.{Below, Best, stays, renewed, left}

-- a report on a lapsed entry is newer
lapsed_newer : (e : Entry) (serial : ℕ) → e.age ≡ 0 → newer e serial ≡ false → ⊥
lapsed_newer e serial z h = grind (arith, nat_tests)

module _ (count root origin first : ℕ) (low : 1 ≤ origin) (other : origin ≡ root → ⊥) where
  -- The state has this count and root, and an entry for the origin.
  pub record Of (s : State) : Type 0 where
    pub count_is : s.count ≡ count
    pub root_is : s.root ≡ root
    pub there : origin ≤ length s.entries

  next : (s : State) (b : List ℕ) → Of s → Of (take_state s b)
  next s b h = let a = taken_alike s b in record { count_is = a.count ∙ h.count_is; root_is = a.root ∙ h.root_is; there = omega (arith, a.size, h.there) }

  -- What no report renews is in force and ahead, or no report speaks of it.
  unrenewed : (s : State) (b : List ℕ) → Of s → (1 ≤ (held s origin).age → ahead (held s origin).serial first ≤ 31) → Below count origin first 31 b → ((q : Content) → Renews s b origin q → ⊥)
      → (q : Content) → heard count b ≡ Ok q → q.header.origin ≡ origin → newer (held s origin) q.header.serial ≡ false
  unrenewed s b h fits near none q brought of =
      elim (cases_Bool (newer (held s origin) q.header.serial)) [
        | inl is ↦ absurd (none q (record { brought = ap (λ n. heard n b) h.count_is ∙ brought; of = of; other = λ e. other (e ∙ h.root_is); newer = is }))
        | inr is ↦ is
      ]

  pub best : (bs : List (List ℕ)) (s : State) → Of s → (1 ≤ (held s origin).age → ahead (held s origin).serial first ≤ 31) → All (Below count origin first 31) bs
      → Best count origin first (held s origin) bs (held (taken_all s bs) origin)
  best [] s h fits near = stays refl (λ f. All-nil _) (λ z. All-nil _)
  best (b ∷ bs) s h fits near =
      let head = All-head (Below count origin first 31) b bs near in
      let tail = All-tail (Below count origin first 31) b bs near in
      elim (step s origin low h.there b) [
        | inl p ↦
            let q = p.0 in
            let is = p.2 in
            let brought : heard count b ≡ Ok q = ap (λ n. heard n b) (sym h.count_is) ∙ p.1.brought in
            let fair = heard_fair count b q brought in
            let place = head q brought p.1.of in
            let rest = best bs (take_state s b) (next s b h) (λ f. subst (λ (x : Entry). ahead x.serial first ≤ 31) (sym is) place) tail in
            renewed count origin first (held s origin) b bs _ q brought p.1.of fair.age
            (λ f. ahead_newer first q.header.serial (held s origin) f place (fits f) p.1.newer)
            (subst (λ (x : Entry). Best count origin first x bs (held (taken_all (take_state s b) bs) origin)) is rest)
        | inr p ↦
            let is = p.1 in
            let old = unrenewed s b h fits head p.0 in
            let rest = best bs (take_state s b) (next s b h) (subst (λ (x : Entry). 1 ≤ x.age → ahead x.serial first ≤ 31) (sym is) fits) tail in
            left count origin first (held s origin) b bs _
            (λ f q brought of. behind_older first q.header.serial (held s origin) f (head q brought of) (fits f) (old q brought of))
            (λ z q brought of. lapsed_newer (held s origin) q.header.serial z (old q brought of))
            (subst (λ (x : Entry). Best count origin first x bs (held (taken_all (take_state s b) bs) origin)) is rest)
      ]
