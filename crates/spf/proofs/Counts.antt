-- Counting the routes that differ. Assumes nothing.
use Rattle.std.proofs.Common.{◌≡◌, ℕ, suc, ◌+◌, ◌<◌, Bool, cond, not, ◌&&◌, eqb, List, [], ◌∷◌, length, get_or, Some, None, Decides, count_by, Option, sym, refl, ap, ap₂, ◌∙◌, arith}
use Rattle.std.proofs.lemmas.List.Sums.{sum_by-cons}
use Rattle.std.proofs.lemmas.Bool.{false≢true}
use Rattle.std.proofs.lemmas.Option.{none-some, same_Some}
use Rattle.std.proofs.lemmas.Bool.Decides.{same_from_decides, Decides-eqb, Decides-like, Decides-and}
use Rattle.std.specs.List.{range_with_len, zip}
use Rattle.spf.specs.declared.route.Route.{Route}
use Rattle.spf.specs.Changes.{same_distance, same_route, changed_count, CountsChanges}
use Rattle.spf.specs.Reckoning.{no_route, route_at}

-- ---- the test of two routes decides whether they are equal

distance_decides : (a b : Option ℕ) → Decides (same_distance a b) (a ≡ b)
distance_decides None None = (λ _. refl, λ _. refl)
distance_decides None (Some b) = (λ e. absurd (false≢true e), λ e. absurd (none-some b e))
distance_decides (Some a) None = (λ e. absurd (false≢true e), λ e. absurd (none-some a (sym e)))
distance_decides (Some a) (Some b) = Decides-like (eqb a b) (ap (λ (n : ℕ). Some n)) (same_Some a b) (Decides-eqb a b)

pub route_decides : (x y : Route) → Decides (same_route x y) (x ≡ y)
route_decides x y = Decides-like (same_route x y)
    (λ e. λ i. record { distance = e.0 i; parent = e.1.0 i; hop = e.1.1 i })
    (λ e. (ap (λ (r : Route). r.distance) e, (ap (λ (r : Route). r.parent) e, ap (λ (r : Route). r.hop) e)))
    (Decides-and (same_distance x.distance y.distance) (eqb x.parent y.parent && eqb x.hop y.hop) (distance_decides x.distance y.distance)
    (Decides-and (eqb x.parent y.parent) (eqb x.hop y.hop) (Decides-eqb x.parent y.parent) (Decides-eqb x.hop y.hop)))

-- ---- the count

pub counts_changes : (before after : List Route) → CountsChanges before after (changed_count before after)
unfolding changed_count CountsChanges
counts_changes before after equal decides =
    let same : (v : ℕ) → same_route (route_at before v) (route_at after v) ≡ equal v = λ v.
    same_from_decides (same_route (route_at before v) (route_at after v)) (equal v) (route_decides (route_at before v) (route_at after v)) (decides v) in
    λ i. count_by (λ v. not (same v i)) (range_with_len 1 64)

route_next : (tree : List Route) (n : ℕ) → route_at tree (1 + n) ≡ get_or tree n no_route
route_next tree n = let e : 1 + n ≡ suc n = omega arith in ap (route_at tree) e

-- two lists side by side, and the numbers of their places
beside : (p : Route × Route → Bool) (f : ℕ → Bool) (k : ℕ) (xs ys : List Route) → length xs ≡ length ys
    → ((i : ℕ) → i < length xs → f (k + i) ≡ p (get_or xs i no_route, get_or ys i no_route)) → count_by p (zip xs ys) ≡ count_by f (range_with_len k (length xs))
beside p f k [] ys long same = refl
beside p f k (x ∷ xs) [] long same = absurd (omega arith)
beside p f k (x ∷ xs) (y ∷ ys) long same =
    let here : f k ≡ p (x, y) = ap f (omega arith) ∙ same 0 (omega arith) in
    let rest = beside p f (k + 1) xs ys (omega arith) (λ i h. ap f (omega arith) ∙ same (suc i) (omega arith)) in
    sum_by-cons (λ q. cond {A = ℕ} (p q) 1 0) (x, y) (zip xs ys)
    ∙ ap₂ (λ (b : Bool) (n : ℕ). cond b 1 0 + n) (sym here) rest
    ∙ sym (sum_by-cons (λ v. cond {A = ℕ} (f v) 1 0) k (range_with_len (k + 1) (length xs)))

pub changed_beside : (before after : List Route) → length before ≡ 64 → length after ≡ 64 → count_by (λ (p : Route × Route). not (same_route p.0 p.1)) (zip before after) ≡ changed_count before after
unfolding changed_count
changed_beside before after long wide =
    beside (λ (p : Route × Route). not (same_route p.0 p.1)) (λ v. not (same_route (route_at before v) (route_at after v))) 1 before after (long ∙ sym wide)
    (λ i h. ap₂ (λ (x y : Route). not (same_route x y)) (route_next before i) (route_next after i))
    ∙ ap (λ (n : ℕ). count_by (λ v. not (same_route (route_at before v) (route_at after v))) (range_with_len 1 n)) long
