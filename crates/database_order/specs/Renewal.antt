-- Which entry a report renews: the law of taking.
use Rattle.std.specs.Prelude.{◌≡◌, ℕ, ◌≤◌, true, List, length, Ok, ◌≢◌}
use Rattle.wire.specs.Reports.{Content}
use Rattle.entries.specs.Freshness.{newer}
use Rattle.database.specs.States.{State, held}
use Rattle.database.specs.Taking.{heard, heard_entry, take_state}

-- The bytes b bring the report q, not refused; q is of this origin, which is not the root, and newer than what is held of it.
pub record Renews (s : State) (b : List ℕ) (origin : ℕ) (q : Content) : Type 0 where
  pub brought : heard s.count b ≡ Ok q
  pub of : q.header.origin ≡ origin
  pub other : origin ≢ s.root
  pub newer : newer (held s origin) q.header.serial ≡ true

-- What taking b does to the entry of each node: a report that renews it makes it, and an entry that no report renews stays as it was.
pub record Renewed (s : State) (b : List ℕ) (origin : ℕ) : Type 0 where
  pub renewed : (q : Content) → Renews s b origin q → held (take_state s b) origin ≡ heard_entry q
  pub stayed : ((q : Content) → Renews s b origin q → ⊥) → held (take_state s b) origin ≡ held s origin

-- This holds of every state, all bytes, and every node that has an entry.
abbrev pub Renewal : Type 0
Renewal = (s : State) (b : List ℕ) (origin : ℕ) → 1 ≤ origin → origin ≤ length s.entries → Renewed s b origin
