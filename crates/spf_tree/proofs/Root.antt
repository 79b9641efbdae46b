-- The table that reaches the root alone. Assumes nothing.
use Rattle.std.proofs.Common.{◌≡◌, ℕ, zero, suc, ◌-◌, List, [], set, replicate, Some, refl, ap, ◌∙◌, inl, inr, arith}
use mathlib.Core.Path.{subst⁻¹}
use lib.ListN.{get_or-replicate, length-replicate}
use Rattle.std.proofs.lemmas.List.{get_or_past}
use Rattle.std.proofs.lemmas.Bool.{cases_eq, cases_lt}
use Rattle.metric.specs.Meaning.{Meaning}
use Rattle.metric.specs.Laws.{Laws}
use Rattle.spf.specs.Maps.{Map, Node, Sound}
use Rattle.spf.specs.Paths.{Path, cost}
use Rattle.spf.specs.declared.route.Route.{Route}
use Rattle.spf.specs.Reckoning.{route_at, no_route}
use Rattle.spf_laws.specs.Searches.{Partial}
use Rattle.spf_laws.proofs.Options.{some_same, none_some}
use Rattle.spf_laws.proofs.Paths.{path_is_cost}
use Rattle.spf_tree.specs.Queues.{alone}
use Rattle.spf_tree.proofs.Offers.{route_set, route_other}

nothing : (n v : ℕ) → route_at (replicate n no_route) v ≡ no_route
nothing n zero = refl
nothing n (suc i) = elim (cases_lt i n) [ inl h ↦ get_or-replicate n i no_route no_route h | inr h ↦ get_or_past (replicate n no_route) i no_route (omega (arith, length-replicate n no_route)) ]

module _ (k : Meaning) (laws : Laws k) (m : Map) (sound : Sound m) (r : ℕ) (root : Node m r) where
  abbrev table : List Route
  table = set (replicate 64 no_route) (r - 1) (alone k.empty)

  at_root : route_at table r ≡ alone k.empty
  at_root = route_set (replicate 64 no_route) r (alone k.empty) root.0 (omega (arith, root.1, sound.small, length-replicate 64 no_route))

  elsewhere : (v : ℕ) → (v ≡ r → ⊥) → route_at table v ≡ no_route
  elsewhere v n = route_other (replicate 64 no_route) r v (alone k.empty) root.0 n ∙ nothing 64 v

  -- what holds of both routes holds of all
  each : (P : ℕ → Route → Type 0) → P r (alone k.empty) → ((v : ℕ) → P v no_route) → (v : ℕ) → P v (route_at table v)
  each P here there v = elim (cases_eq v r) [
    | inl e ↦ subst⁻¹ (λ (x : ℕ). P x (route_at table x)) e (subst⁻¹ (P r) at_root here)
    | inr n ↦ subst⁻¹ (P v) (elsewhere v n) (there v)
  ]

  pub root_partial : Partial k m r (route_at table)
  root_partial = record {
    begins = (k.empty, ap (λ (x : Route). x.distance) at_root, laws.irreflexive k.empty (path_is_cost m sound r root k [] r refl));
    reached = each (λ v route. (c : ℕ) → route.distance ≡ Some c → (us : List ℕ) × Path m r v us × (cost k m v us ≡ c))
        (λ c e. ([], refl, some_same refl e)) (λ v c e. absurd (none_some refl e));
    parents = each (λ v route. route.parent ≡ 0) refl (λ v. refl);
    hops = each (λ v route. route.hop ≡ 0) refl (λ v. refl);
  }
