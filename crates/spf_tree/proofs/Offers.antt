-- What the offer of a line leaves. Assumes nothing.
use Rattle.std.proofs.Common.{◌≡◌, ℕ, zero, suc, ◌+◌, ◌-◌, ◌<◌, ◌≤◌, Bool, true, false, cond, eqb, List, length, get_or, set, is_some, Some, None, Option, sym, refl, ap, ◌∙◌, arith, get_or-set_other, get_or-set_same}
use Rattle.metric.specs.Meaning.{Meaning}
use Rattle.wire.specs.declared.lines.Line.{Line}
use Rattle.spf.specs.declared.route.Route.{Route}
use Rattle.spf.specs.Reckoning.{route_at, no_route}
use Rattle.spf_laws.specs.Searches.{lower_of, compared, offered}
use Rattle.spf_tree.specs.Queues.{Queued, reaches, reached_by}
use Rattle.spf_tree.proofs.Queue.{queue_push, room}
use Rattle.spf_tree.proofs.Choice.{route_is}

-- a route that is written
pub route_set : (routes : List Route) (n : ℕ) (route : Route) → 1 ≤ n → n ≤ length routes → route_at (set routes (n - 1) route) n ≡ route
route_set routes zero route low high = absurd (omega arith)
route_set routes (suc i) route low high = grind (arith, get_or-set_same {A = Route})

pub route_other : (routes : List Route) (n v : ℕ) (route : Route) → 1 ≤ n → (v ≡ n → ⊥) → route_at (set routes (n - 1) route) v ≡ route_at routes v
route_other routes n zero route low ne = refl
route_other routes n (suc i) route low ne = get_or-set_other routes (n - 1) i route no_route (λ e. ne (omega arith))

-- a route that keeps its distance
pub distance_still : (routes : List Route) (n v : ℕ) (route : Route) → 1 ≤ n → n ≤ length routes → route.distance ≡ (get_or routes (n - 1) no_route).distance
    → (route_at (set routes (n - 1) route) v).distance ≡ (route_at routes v).distance
distance_still routes n v route low high same = grind (arith, route_set, route_other, route_is)

-- what is offered a line is reached
cond_reaches : (x y : Bool) (a b c : Route) → reaches a ≡ true → reaches b ≡ true → reaches c ≡ true → reaches (cond x a (cond y b c)) ≡ true
cond_reaches true y a b c p q s = p
cond_reaches false true a b c p q s = q
cond_reaches false false a b c p q s = s

compared_reaches : (k : Meaning) (u c : ℕ) (route : Route) (o : Option ℕ) → route.distance ≡ o → reaches (compared k u c route o) ≡ true
compared_reaches k u c route None e = refl
compared_reaches k u c route (Some b) e =
    let y : reaches route ≡ true = ap is_some e in
    cond_reaches (k.less c b) (eqb c b) (record { distance = Some c; parent = u; hop = route.hop }) (record { distance = route.distance; parent = lower_of route.parent u; hop = route.hop }) route refl y y

-- where the neighbour of a line is not reached, there is room for it
pub offer_room : (routes : List Route) (n x : ℕ) → n ≡ x → 1 ≤ x → x ≤ 64 → (nodes : List ℕ) (reached : ℕ) → Queued (reached_by routes) nodes reached
    → is_some (get_or routes (n - 1) no_route).distance ≡ false → reached < 64
offer_room routes n x at low small nodes reached q z =
    room (reached_by routes) nodes reached x low small (ap reaches (sym (ap (λ (i : ℕ). get_or routes (i - 1) no_route) at ∙ route_is routes x low)) ∙ z) q

-- after the offer of a line to the node n, as the code writes the route
module _ (k : Meaning) (u a : ℕ) (x : Line) (routes : List Route) (low : 1 ≤ x.neighbour) (high : x.neighbour ≤ length routes) (n : ℕ) (at : n ≡ x.neighbour)
    (new : Route) (is : new ≡ offered k u (k.add a x.figure) (get_or routes (n - 1) no_route)) where
  abbrev after : List Route
  after = set routes (n - 1) new

  read : get_or routes (n - 1) no_route ≡ route_at routes x.neighbour
  read = ap (λ (i : ℕ). get_or routes (i - 1) no_route) at ∙ route_is routes x.neighbour low

  here : route_at after x.neighbour ≡ offered k u (k.add a x.figure) (route_at routes x.neighbour)
  here = ap (λ (i : ℕ). route_at (set routes (i - 1) new) x.neighbour) at ∙ route_set routes x.neighbour new low high ∙ is ∙ ap (offered k u (k.add a x.figure)) read

  pub there : (v : ℕ) → (v ≡ x.neighbour → ⊥) → route_at after v ≡ route_at routes v
  there v o = ap (λ (i : ℕ). route_at (set routes (i - 1) new) v) at ∙ route_other routes x.neighbour v new low o

  now_reached : reached_by after x.neighbour ≡ true
  now_reached = ap reaches here ∙ compared_reaches k u (k.add a x.figure) (route_at routes x.neighbour) (route_at routes x.neighbour).distance refl

  others : (v : ℕ) → (v ≡ x.neighbour → ⊥) → reached_by after v ≡ reached_by routes v
  others v o = ap reaches (there v o)

  module _ (nodes : List ℕ) (reached : ℕ) (small : x.neighbour ≤ 64) (q : Queued (reached_by routes) nodes reached) where
    pub offer_new : is_some (get_or routes (n - 1) no_route).distance ≡ false → length nodes ≡ 64 → Queued (reached_by after) (set nodes reached x.neighbour) (reached + 1)
    offer_new z long =
        let space : reached < 64 = offer_room routes n x.neighbour at low small nodes reached q z in
        queue_push (reached_by routes) (reached_by after) nodes reached x.neighbour low small (ap reaches (sym read) ∙ z) now_reached others (omega arith) q
