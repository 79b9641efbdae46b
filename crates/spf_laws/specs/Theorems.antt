-- What is proved of every metric, map and root. Assumes nothing.
use Rattle.std.specs.Prelude.{◌≡◌, ℕ, Bool, true, false, List, Some, ◌≢◌}
use Rattle.metric.specs.Meaning.{Meaning}
use Rattle.metric.specs.Laws.{Laws}
use Rattle.spf.specs.Maps.{Map, Node, Sound}
use Rattle.spf.specs.Routes.{IsRoute}
use Rattle.spf.specs.Reckoning.{route_of, tree_of, route_at}
use Rattle.spf.specs.Forwarding.{AllShow, Arrives}
use Rattle.spf.specs.declared.route.Route.{Route}
use Rattle.spf_laws.specs.Searches.{Partial, Searching, after_line, hop_by}

-- It holds of every metric that keeps the laws, every sound map and every node of the map.
abbrev pub Everywhere : (Meaning → Map → ℕ → Type 0) → Type 0
Everywhere Holds = (k : Meaning) → Laws k → (m : Map) → Sound m → (r : ℕ) → Node m r → Holds k m r

-- What is reckoned for a root is its route, to any number at all, and its tree holds these routes.
pub record Reckons (k : Meaning) (m : Map) (r : ℕ) : Type 0 where
  pub route : (v : ℕ) → IsRoute k m r v (route_of k m r v)
  pub tree : (v : ℕ) → IsRoute k m r v (route_at (tree_of k m r) v)

-- A root has one route to a number.
abbrev pub OneRoute : Meaning → Map → ℕ → Type 0
OneRoute k m r = (v : ℕ) (x y : Route) → IsRoute k m r v x → IsRoute k m r v y → x ≡ y

-- A search may begin from any table of costs of paths. Settling the nearest node that waits, with its next hop by its parent, and offering the lines that leave it keeps what a search keeps. Where no node waits, the routes are found.
pub record Searches (k : Meaning) (m : Map) (r : ℕ) : Type 0 where
  pub begins : (routes : ℕ → Route) → Partial k m r routes → Searching k m r routes (λ v. false)
  pub goes : (before hopped after : ℕ → Route) (s s' : ℕ → Bool) (u a : ℕ) → Searching k m r before s
      → s u ≡ false → (before u).distance ≡ Some a → ((w c : ℕ) → s w ≡ false → (before w).distance ≡ Some c → k.less c a ≡ false)
      → s' u ≡ true → ((w : ℕ) → (w ≢ u) → s' w ≡ s w)
      → ((v : ℕ) → (hopped v).distance ≡ (before v).distance) → ((v : ℕ) → (hopped v).parent ≡ (before v).parent)
      → ((v : ℕ) → (v ≢ u) → (hopped v).hop ≡ (before v).hop) → (hopped u).hop ≡ hop_by r u (before u).parent (before (before u).parent).hop
      → ((v : ℕ) → after v ≡ after_line k u a (m.figure u v) (hopped v)) → Searching k m r after s'
  pub ends : (routes : ℕ → Route) (s : ℕ → Bool) → Searching k m r routes s → ((w c : ℕ) → s w ≡ false → (routes w).distance ≢ Some c) → (v : ℕ) → IsRoute k m r v (routes v)

-- Where every node shows its routes, and a shows a distance to d, forwarding from a arrives at d at the cost of that distance.
abbrev pub Forwarding : Meaning → Map → ℕ → Type 0
Forwarding k m a = (shows : ℕ → ℕ → Route) → AllShow k m shows → (d c : ℕ) → Node m d → (shows a d).distance ≡ Some c → (us : List ℕ) × Arrives k m shows a d c us
