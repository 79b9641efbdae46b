-- What one taking does to the entry of one node.
use Rattle.std.proofs.Common.{◌≡◌, ℕ, ◌-◌, ◌≤◌, Bool, true, false, cond, nat_eq, ◌≢◌, ◌⊎◌, List, length, Ok, Err, Result, sym, refl, ap, ◌∙◌, inl, inr, arith}
use Rattle.std.proofs.lemmas.List.{get_or-set_same, get_or-set_other, length-set}
use Rattle.std.proofs.lemmas.Bool.{cases_eq, eqb-true, eqb-false, both_ways}
use Rattle.std.proofs.lemmas.Bool.Decides.{nat_tests}
use Rattle.wire.specs.declared.fault.ReadFault.{ReadFault}
use Rattle.wire.specs.Reports.{Content, said, report_questions, read_report}
use Rattle.wire.proofs.Judging.{all_yes, comes}
use Rattle.wire.proofs.Passed.{all_passed}
use Rattle.entries.specs.declared.freshness.Freshness.TheVariants as compared
use Rattle.entries.specs.declared.verdicts.Taken.{Taken}
use Rattle.entries.specs.declared.verdicts.Taken.TheVariants as taken
use Rattle.entries.specs.declared.verdicts.TakeFault.{TakeFault}
use Rattle.entries.specs.Entries.{missing}
use Rattle.entries.specs.Freshness.{newer}
use Rattle.entries.specs.Verdicts.{verdict}
use Rattle.database.specs.States.{State, held}
use Rattle.database.specs.Taking.{within, passed, admitted, heard, verdict_on, heard_entry, settled, left_by, take_state}
use Rattle.database_order.specs.Renewal.{Renews, Renewal}

-- What a report that was read has for sure.
pub record Fair (q : Content) : Type 0 where
  pub origin : 1 ≤ q.header.origin
  pub serial : q.header.serial ≤ 63
  pub age : 1 ≤ q.header.age

read_fair : (b : List ℕ) (q : Content) → read_report b ≡ Ok q → Fair q
unfolding read_report
read_fair b q e =
    let ok = all_passed b (all_yes (report_questions b) (said b) q e) in
    let o = ok.origin.good in
    let s = ok.serial.good in
    let a = ok.age.good in
    rw (← comes (report_questions b) (said b) q e) (record { origin = grind (arith, nat_tests); serial = grind (arith, nat_tests); age = grind (arith, nat_tests) })

passed_is : (w : Result (Unit {0}) TakeFault) (p q : Content) → passed w p ≡ Ok q → p ≡ q
passed_is (Ok u) p q h = cc
passed_is (Err f) p q h = cc

admitted_read : (count : ℕ) (r : Result Content ReadFault) (q : Content) → admitted count r ≡ Ok q → r ≡ Ok q
admitted_read count (Ok p) q h = ap Ok (passed_is (within count p) p q h)
admitted_read count (Err f) q h = cc

pub heard_fair : (count : ℕ) (b : List ℕ) (q : Content) → heard count b ≡ Ok q → Fair q
heard_fair count b q h = read_fair b q (admitted_read count (read_report b) q h)

-- Count, root and the number of entries stay.
pub record Alike (s t : State) : Type 0 where
  pub count : t.count ≡ s.count
  pub root : t.root ≡ s.root
  pub size : length t.entries ≡ length s.entries

settled_alike : (s : State) (q : Content) (v : Taken) → Alike s (settled s q v)
settled_alike s q taken.Accepted = record { count = refl; root = refl; size = length-set s.entries (q.header.origin - 1) (heard_entry q) }
settled_alike s q taken.Own = record { count = refl; root = refl; size = refl }
settled_alike s q taken.Duplicate = record { count = refl; root = refl; size = refl }
settled_alike s q taken.Older = record { count = refl; root = refl; size = refl }

left_alike : (s : State) (r : Result Content TakeFault) → Alike s (left_by s r)
left_alike s (Ok q) = settled_alike s q (verdict_on s q)
left_alike s (Err f) = record { count = refl; root = refl; size = refl }

pub taken_alike : (s : State) (b : List ℕ) → Alike s (take_state s b)
taken_alike s b = left_alike s (heard s.count b)

-- Nothing changes by what is not newer.
still : (s : State) (q : Content) (d own : Bool) → settled s q (verdict (cond d compared.Duplicate compared.Older) own) ≡ s
still s q true own = refl
still s q false own = refl

module _ (s : State) (origin : ℕ) (low : 1 ≤ origin) (high : origin ≤ length s.entries) where
  -- The entry after a report with the given answers to "newer?" and "the root's own?".
  after : (q : Content) → Fair q → (n own : Bool) → newer (held s q.header.origin) q.header.serial ≡ n → nat_eq q.header.origin s.root ≡ own
      → ((q.header.origin ≡ origin) × (origin ≡ s.root → ⊥) × (newer (held s origin) q.header.serial ≡ true) × (held (settled s q (verdict_on s q)) origin ≡ heard_entry q))
      ⊎ ((q.header.origin ≡ origin → (origin ≡ s.root → ⊥) → newer (held s origin) q.header.serial ≡ true → ⊥) × (held (settled s q (verdict_on s q)) origin ≡ held s origin))
  after q fair true true hn hr =
      inr ((λ of other is. other (sym of ∙ eqb-true q.header.origin s.root hr)), rw (hn, hr))
  after q fair true false hn hr =
      elim (cases_eq q.header.origin origin) [
        | inl of ↦
            inl (
              of,
              (λ e. eqb-false q.header.origin s.root hr (of ∙ e)),
              rw of at hn,
              rw (hn, hr, of) (get_or-set_same s.entries (origin - 1) (heard_entry q) missing (omega arith)),
            )
        | inr not ↦
            inr (
              (λ of other is. not of),
              rw (hn, hr)
                  (get_or-set_other s.entries (q.header.origin - 1) (origin - 1) (heard_entry q) missing (let ne : (origin - 1) ≢ (q.header.origin - 1) = omega (arith, fair.origin) in ne)),
            )
      ]
  after q fair false own hn hr =
      inr (
        (λ of other is. both_ways _ (rw of at hn) is),
        rw hn (ap (λ t. held t origin) (still s q (nat_eq q.header.serial (held s q.header.origin).serial) (nat_eq q.header.origin s.root))),
      )

  -- Either the report that b brings renews the entry, or none does.
  abbrev Either : List ℕ → State → Type 0
  Either b t = ((q : Content) × Renews s b origin q × (held t origin ≡ heard_entry q)) ⊎ (((q : Content) → Renews s b origin q → ⊥) × (held t origin ≡ held s origin))

  step_by : (b : List ℕ) (r : Result Content TakeFault) → heard s.count b ≡ r → Either b (left_by s r)
  step_by b (Err f) e = inr ((λ q k. let h = k.brought in cc), refl)
  step_by b (Ok q) e =
      elim (after q (heard_fair s.count b q e) _ _ refl refl) [
        | inl p ↦ inl (q, record { brought = e; of = p.0; other = p.1; newer = p.2 }, p.3)
        | inr p ↦
            inr (
              (λ k renews. let h = renews.brought in let same : q ≡ k = cc in p.0 (ap (λ t. t.header.origin) same ∙ renews.of) renews.other (ap (λ t. newer (held s origin) t.header.serial) same ∙ renews.newer)),
              p.1,
            )
      ]

  pub step : (b : List ℕ) → Either b (take_state s b)
  step b = step_by b (heard s.count b) refl

-- No two reports are brought by the same bytes.
pub same_brought : (r : Result Content TakeFault) (p q : Content) → r ≡ Ok p → r ≡ Ok q → p ≡ q
same_brought r p q a b = cc

pub renewal : Renewal
renewal s b origin low high =
    elim (step s origin low high b) [
      | inl p ↦
          record {
            renewed = λ q k. p.2 ∙ ap heard_entry (same_brought (heard s.count b) p.0 q p.1.brought k.brought);
            stayed = λ none. absurd (none p.0 p.1);
          }
      | inr p ↦ record { renewed = λ q k. absurd (p.0 q k); stayed = λ _. p.1 }
    ]
