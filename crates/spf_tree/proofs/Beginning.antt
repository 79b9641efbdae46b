-- How the list of reached nodes is made of a table. Assumes nothing.
use Rattle.std.proofs.Common.{◌≡◌, ℕ, ◌+◌, ◌<◌, ◌≤◌, Bool, true, false, ◌&&◌, leb, List, length, get_or, set, sym, ap, ◌∙◌, inl, inr, add-one, arith}
use mathlib.Core.Path.{subst⁻¹}
use Rattle.std.proofs.lemmas.Bool.{cases_eq, and_right, and_from, le-leb}
use Rattle.std.proofs.lemmas.Bool.Decides.{nat_tests}
use Rattle.spf.specs.declared.route.Route.{Route}
use Rattle.spf.specs.Reckoning.{no_route}
use Rattle.spf_tree.specs.Queues.{Queued, reaches, reached_by}
use Rattle.spf_tree.proofs.Queue.{queue_same, queue_push, room}

-- the nodes up to i that a table reaches
abbrev pub up_to : List Route → ℕ → ℕ → Bool
up_to routes i v = leb v i && reached_by routes v

next_is : (routes : List Route) (i : ℕ) → reached_by routes (i + 1) ≡ reaches (get_or routes i no_route)
next_is routes i = ap (reached_by routes) (add-one i)

-- all but the next one are as they were
still : (routes : List Route) (i v : ℕ) → (v ≡ i + 1 → ⊥) → up_to routes (i + 1) v ≡ up_to routes i v
still routes i v n = grind (arith, nat_tests)

not_yet : (routes : List Route) (i : ℕ) → up_to routes i (i + 1) ≡ false
not_yet routes i = grind (arith, nat_tests)

pub begin_skip : (routes : List Route) (nodes : List ℕ) (i reached : ℕ) → reaches (get_or routes i no_route) ≡ false → Queued (up_to routes i) nodes reached → Queued (up_to routes (i + 1)) nodes reached
begin_skip routes nodes i reached z q = queue_same (up_to routes i) (up_to routes (i + 1)) nodes reached
    (λ v _ _. elim (cases_eq v (i + 1)) [
      | inl e ↦ subst⁻¹ (λ (x : ℕ). up_to routes (i + 1) x ≡ up_to routes i x) e (and_right (leb (i + 1) (i + 1)) (reached_by routes (i + 1)) (next_is routes i ∙ z) ∙ sym (not_yet routes i))
      | inr n ↦ still routes i v n
    ]) q

pub begin_take : (routes : List Route) (nodes : List ℕ) (i reached : ℕ) → i < 64 → length nodes ≡ 64 → reaches (get_or routes i no_route) ≡ true → Queued (up_to routes i) nodes reached
    → Queued (up_to routes (i + 1)) (set nodes reached (i + 1)) (reached + 1)
begin_take routes nodes i reached h long y q =
    let space : reached < 64 = room (up_to routes i) nodes reached (i + 1) (omega arith) (omega arith) (not_yet routes i) q in
    queue_push (up_to routes i) (up_to routes (i + 1)) nodes reached (i + 1) (omega arith) (omega arith) (not_yet routes i)
    (and_from (leb (i + 1) (i + 1)) (reached_by routes (i + 1)) (le-leb (i + 1) (i + 1) (omega arith)) (next_is routes i ∙ y)) (still routes i) (omega arith) q

pub begin_room : (routes : List Route) (nodes : List ℕ) (i reached : ℕ) → i < 64 → Queued (up_to routes i) nodes reached → reached < 64
begin_room routes nodes i reached h q = room (up_to routes i) nodes reached (i + 1) (omega arith) (omega arith) (not_yet routes i) q

pub begin_all : (routes : List Route) (nodes : List ℕ) (i reached : ℕ) → 64 ≤ i → Queued (up_to routes i) nodes reached → Queued (reached_by routes) nodes reached
begin_all routes nodes i reached h q = queue_same (up_to routes i) (reached_by routes) nodes reached (λ v _ high. sym (ap (λ (b : Bool). b && reached_by routes v) (le-leb v i (omega arith)))) q
