-- Two orders of the same reports have the same end.
use Rattle.std.proofs.Common.{◌≡◌, ℕ, ◌+◌, ◌-◌, ◌<◌, ◌≤◌, List, [], ◌∷◌, length, Ok, sym, refl, ap, ◌∙◌, inl, inr, arith}
use Rattle.std.proofs.lemmas.List.Elements.{All-contains, All-contains_itself, All-weaker}
use Rattle.std.proofs.lemmas.List.{ext_get_or, get_or-map, length-map}
use Rattle.std.proofs.lemmas.List.Sorted.{IsPermutation-sym, All-permutation, Contains-permutation}
use Rattle.std.proofs.lemmas.Bool.{cases_eq, cases_lt}
use Rattle.std.specs.List.Sorted.{IsPermutation}
use Rattle.std.specs.List.{Contains, All}
use Rattle.wire.specs.declared.lines.Line.{Line}
use Rattle.wire.specs.Reports.{Content}
use Rattle.rows.specs.Rows.{lines_in}
use Rattle.entries.specs.declared.entry.Entry.{Entry}
use Rattle.entries.specs.Entries.{missing}
use Rattle.entries.specs.Freshness.{ahead}
use Rattle.database.specs.States.{State, held}
use Rattle.database.specs.Taking.{heard, row_with, take_state}
use Rattle.database_order.specs.Orders.{taken_all, lines_held, Brought, Premise, OrderFree}
use Rattle.database_order.proofs.Serials.{same_serial}
use Rattle.database_order.proofs.Steps.{taken_alike, step, heard_fair}
use Rattle.database_order.proofs.Bests.{Each, Below, Best, stays, comes}
use Rattle.database_order.proofs.Runs.{Of, best}

-- The lines of an entry.
abbrev lines : Entry → List Line
lines e = lines_in e.row

-- Who stays although a report of the same list comes.
clash : (count origin first : ℕ) (e : Entry) (bs : List (List ℕ)) (b : List ℕ) (q : Content)
    → (1 ≤ e.age → All (Below count origin first (ahead e.serial first)) bs) → (e.age ≡ 0 → All (Each count origin first (λ p. ⊥)) bs)
    → Contains bs b → heard count b ≡ Ok q → q.header.origin ≡ origin → (1 ≤ e.age → ahead e.serial first < ahead q.header.serial first) → ⊥
clash count origin first e bs b q below silent has brought of beats =
    elim (cases_lt 0 e.age) [
      | inl f ↦ let x = All-contains (Below count origin first (ahead e.serial first)) bs b (below f) has q brought of in let y = beats f in omega arith
      | inr z ↦ All-contains (Each count origin first (λ p. ⊥)) bs b (silent (omega arith)) has q brought of
    ]

module _ (count origin first : ℕ) (e : Entry) (xs ys : List (List ℕ)) (same : IsPermutation xs ys)
    (one : (p q : Content) → Brought count xs p → Brought count xs q → p.header.origin ≡ q.header.origin → p.header.serial ≡ q.header.serial → p.lines ≡ q.lines) where
  back : IsPermutation ys xs
  back = IsPermutation-sym xs ys same

  -- Two ends by the same reports have the same lines.
  pub agree : (r t : Entry) → Best count origin first e xs r → Best count origin first e ys t → lines r ≡ lines t
  agree r t (stays is below silent) (stays also-is low none) = ap lines (is ∙ sym also-is)
  agree r t (stays is below silent) (comes c q has hq oq also-is low beats) = absurd (clash count origin first e xs c q below silent (Contains-permutation ys xs c back has) hq oq beats)
  agree r t (comes b p has hp op is below beats) (stays also-is low none) = absurd (clash count origin first e ys b p low none (Contains-permutation xs ys b same has) hp op beats)
  agree r t (comes b p hb hp op is below beats) (comes c q hc hq oq also-is low also) =
      let hc' = Contains-permutation ys xs c back hc in
      let u = All-contains (Below count origin first (ahead p.header.serial first)) xs c below hc' q hq oq in
      let v = All-contains (Below count origin first (ahead q.header.serial first)) ys b low (Contains-permutation xs ys b same hb) p hp op in
      let serial = same_serial first p.header.serial q.header.serial (heard_fair count b p hp).serial (heard_fair count c q hq).serial (omega arith) in
      let k = one p q (b, hb, hp) (c, hc', hq) (op ∙ sym oq) serial in
      ap lines is ∙ ap (λ ls. lines_in (row_with ls)) k ∙ sym (ap lines also-is)

-- The root's entry stays.
pub root_stays : (bs : List (List ℕ)) (s : State) (origin : ℕ) → 1 ≤ origin → origin ≤ length s.entries → origin ≡ s.root → held (taken_all s bs) origin ≡ held s origin
root_stays [] s origin low high is = refl
root_stays (b ∷ bs) s origin low high is =
    let a = taken_alike s b in
    let rest = root_stays bs (take_state s b) origin low (omega (arith, a.size)) (is ∙ sym a.root) in
    elim (step s origin low high b) [
      | inl p ↦ absurd (p.1.other is)
      | inr p ↦ rest ∙ p.1
    ]

pub sizes : (bs : List (List ℕ)) (s : State) → length (taken_all s bs).entries ≡ length s.entries
sizes [] s = refl
sizes (b ∷ bs) s = sizes bs (take_state s b) ∙ (taken_alike s b).size

module _ (s : State) (xs ys : List (List ℕ)) (same : IsPermutation xs ys) (ok : Premise s xs) where
  -- what the premise says of each of the bytes
  near : (origin : ℕ) → All (Below s.count origin (ok.fit origin).first 31) xs
  near origin = All-weaker (Contains xs) (Below s.count origin (ok.fit origin).first 31) (λ b has q brought of. (ok.fit origin).reports q (b, has, brought) of) xs (All-contains_itself xs)

  pub each_same : (origin : ℕ) → 1 ≤ origin → origin ≤ length s.entries → lines (held (taken_all s xs) origin) ≡ lines (held (taken_all s ys) origin)
  each_same origin low high =
      elim (cases_eq origin s.root) [
        | inl is ↦ ap lines (root_stays xs s origin low high is ∙ sym (root_stays ys s origin low high is))
        | inr other ↦
            let first = (ok.fit origin).first in
            let here : Of s.count s.root origin first low other s = record { count_is = refl; root_is = refl; there = high } in
            let P = Below s.count origin first 31 in
            agree s.count origin first (held s origin) xs ys same ok.one _ _
            (best s.count s.root origin first low other xs s here (ok.fit origin).start (near origin))
            (best s.count s.root origin first low other ys s here (ok.fit origin).start (All-permutation P xs ys same (near origin)))
      ]

  pub all_same : lines_held (taken_all s xs) ≡ lines_held (taken_all s ys)
  all_same =
      let n = sizes xs s in
      let m = sizes ys s in
      ext_get_or [] (lines_held (taken_all s xs)) (lines_held (taken_all s ys))
      (length-map (taken_all s xs).entries lines ∙ n ∙ sym m ∙ sym (length-map (taken_all s ys).entries lines))
      (λ k h.
      let l : k < length s.entries = omega (arith, n, length-map (taken_all s xs).entries lines) in
      let e = each_same (k + 1) (omega arith) (omega arith) in
      let back : k + 1 - 1 ≡ k = omega arith in
      get_or-map lines (taken_all s xs).entries k missing [] (omega (arith, n)) ∙ rw back at e ∙ sym (get_or-map lines (taken_all s ys).entries k missing [] (omega (arith, m))))

pub order_free : OrderFree
order_free s xs ys same ok = all_same s xs ys same ok
