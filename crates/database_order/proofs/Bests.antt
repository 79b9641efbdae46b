-- The entry of a node, after reports are taken one after the other, is that of the last serial among 32 consecutive ones.
use Rattle.std.proofs.Common.{◌≡◌, ℕ, ◌<◌, ◌≤◌, List, [], ◌∷◌, Ok, refl, inl, inr, arith}
use Rattle.std.proofs.lemmas.List.Elements.{All-cons, Contains-append_right}
use Rattle.std.proofs.lemmas.Bool.{cases_lt}
use Rattle.std.specs.List.{Contains, All}
use Rattle.wire.specs.Reports.{Content}
use Rattle.entries.specs.declared.entry.Entry.{Entry}
use Rattle.entries.specs.Freshness.{ahead}
use Rattle.database.specs.Taking.{heard, heard_entry}
use Rattle.database_order.proofs.Steps.{same_brought}

-- What holds of the serial's place of each report of an origin that b brings.
abbrev pub Each : ℕ → ℕ → ℕ → (ℕ → Type 0) → List ℕ → Type 0
Each count origin first P b = (q : Content) → heard count b ≡ Ok q → q.header.origin ≡ origin → P (ahead q.header.serial first)

-- No report stands behind place m.
abbrev pub Below : ℕ → ℕ → ℕ → ℕ → List ℕ → Type 0
Below count origin first m b = Each count origin first (λ p. p ≤ m) b

-- How the entry r comes from the entry e by the reports of bs.
pub data Best (count origin first : ℕ) (e : Entry) (bs : List (List ℕ)) (r : Entry) : Type 0 where
  -- It is as it was: no report stands behind it, and if it has lapsed there is none.
  stays : r ≡ e → (1 ≤ e.age → All (Below count origin first (ahead e.serial first)) bs) → (e.age ≡ 0 → All (Each count origin first (λ p. ⊥)) bs) → Best count origin first e bs r
  -- It is that of a report, no report stands behind that one, and that one stands behind what was in force.
  comes : (b : List ℕ) (q : Content) → Contains bs b → heard count b ≡ Ok q → q.header.origin ≡ origin → r ≡ heard_entry q
      → All (Below count origin first (ahead q.header.serial first)) bs → (1 ≤ e.age → ahead e.serial first < ahead q.header.serial first) → Best count origin first e bs r

module _ (count origin first : ℕ) (e : Entry) (b : List ℕ) (bs : List (List ℕ)) (r : Entry) where
  -- one more in front
  front : (x : List ℕ) → Contains bs x → Contains (b ∷ bs) x
  front x h = Contains-append_right (b ∷ []) bs x h

  head : Contains (b ∷ bs) b
  head = (0, omega arith, refl)

  -- The first report renewed the entry.
  pub renewed : (q : Content) → heard count b ≡ Ok q → q.header.origin ≡ origin → 1 ≤ q.header.age → (1 ≤ e.age → ahead e.serial first < ahead q.header.serial first)
      → Best count origin first (heard_entry q) bs r → Best count origin first e (b ∷ bs) r
  renewed q brought of force beats (stays is below none) =
      comes b q head brought of is (All-cons (Below count origin first (ahead q.header.serial first)) b bs (λ p hp op. let same = same_brought (heard count b) q p brought hp in rw (← same) (omega arith)) (below force)) beats
  renewed q brought of force beats (comes c p has hp op is below ahead_of_lem) =
      let up = ahead_of_lem force in
      comes c p (front c has) hp op is (All-cons (Below count origin first (ahead p.header.serial first)) b bs (λ k hk ok. let same = same_brought (heard count b) q k brought hk in rw (← same) (omega arith)) below) (λ f. let low = beats f in omega arith)

  -- The first report left the entry, which was in force or of which it did not speak.
  pub left : (1 ≤ e.age → Below count origin first (ahead e.serial first) b) → (e.age ≡ 0 → Each count origin first (λ p. ⊥) b)
      → Best count origin first e bs r → Best count origin first e (b ∷ bs) r
  left low none (stays is below silent) = stays is (λ f. All-cons (Below count origin first (ahead e.serial first)) b bs (low f) (below f)) (λ z. All-cons (Each count origin first (λ p. ⊥)) b bs (none z) (silent z))
  left low none (comes c p has hp op is below ahead_of_lem) =
      comes c p (front c has) hp op is (All-cons (Below count origin first (ahead p.header.serial first)) b bs
      (λ k hk ok. elim (cases_lt 0 e.age) [
        | inl f ↦ let x = low f k hk ok in let y = ahead_of_lem f in omega arith
        | inr z ↦ absurd (none (omega arith) k hk ok)
      ])
      below)
      ahead_of_lem
