-- What a report that was not refused is answered, and what it leaves.
use Rattle.std.proofs.Common.{◌≡◌, ℕ, ◌+◌, ◌-◌, nat_eq, get_or, set, sym, ap, ◌∙◌, arith}
use Rattle.wire.specs.Reports.{Content}
use Rattle.entries.specs.declared.entry.Entry.{Entry}
use Rattle.entries.specs.declared.freshness.Freshness.{Freshness}
use Rattle.entries.specs.declared.verdicts.Taken.{Taken}
use Rattle.entries.specs.declared.verdicts.Taken.TheVariants as taken
use Rattle.entries.specs.Entries.{missing}
use Rattle.entries.specs.Freshness.{freshness}
use Rattle.entries.specs.Verdicts.{verdict}
use Rattle.database.specs.States.{State}
use Rattle.database.specs.Taking.{heard_entry, verdict_on, settled}

module _ (s : State) (q : Content) (i : ℕ) (place : i + 1 ≡ q.header.origin) where
  back : i ≡ q.header.origin - 1
  back = omega arith

  pub verdict_is : (f : Freshness) (v : Taken) → f ≡ freshness (get_or s.entries i missing) q.header.serial → v ≡ verdict f (nat_eq q.header.origin s.root) → v ≡ verdict_on s q
  verdict_is f v fresh is = is ∙ ap (λ g. verdict g (nat_eq q.header.origin s.root)) (fresh ∙ ap (λ k. freshness (get_or s.entries k missing) q.header.serial) back)

  pub accepted_leaves : (e : Entry) (v : Taken) → e ≡ heard_entry q → v ≡ taken.Accepted → record { count = s.count; root = s.root; entries = set s.entries i e } ≡ settled s q v
  accepted_leaves e v heard is = (λ k. record { count = s.count; root = s.root; entries = set s.entries (back k) (heard k) }) ∙ ap (settled s q) (sym is)
