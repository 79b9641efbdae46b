-- A path has fewer lines than the network has nodes, and its cost is a path cost. Assumes nothing.
use Rattle.std.proofs.Common.{◌≡◌, ℕ, zero, suc, ◌+◌, ◌-◌, ◌<◌, ◌≤◌, Bool, true, false, cond, ◌≢◌, List, [], ◌∷◌, length, get_or, set, replicate, count_by, sym, refl, ◌∙◌, subst, arith, length-set, get_or-set_other}
use lib.ListN.{length-replicate, get_or-replicate}
use Rattle.std.proofs.lemmas.List.Sums.{sum_by-set, count_by-le-length}
use Rattle.metric.specs.Meaning.{Meaning, Cost, PathCost, none, more}
use Rattle.spf.specs.Maps.{Map, Node, Joined, Sound}
use Rattle.spf.specs.Paths.{Apart, Path, cost}

-- the nodes of a list, marked in a row of n
abbrev marks : ℕ → List ℕ → List Bool
marks n [] = replicate n false
marks n (x ∷ xs) = set (marks n xs) (x - 1) true

abbrev Nodes : Map → List ℕ → Type 0
Nodes m [] = Unit {0}
Nodes m (x ∷ xs) = Node m x × Nodes m xs

abbrev Different : List ℕ → Type 0
Different [] = Unit {0}
Different (x ∷ xs) = Apart x xs × Different xs

length_marks : (n : ℕ) (xs : List ℕ) → length (marks n xs) ≡ n
length_marks n [] = length-replicate n false
length_marks n (x ∷ xs) = length-set (marks n xs) (x - 1) true ∙ length_marks n xs

unmarked : (m : Map) (x : ℕ) (xs : List ℕ) → Node m x → Nodes m xs → Apart x xs → get_or (marks m.count xs) (x - 1) false ≡ false
unmarked m x [] n ns ap' = get_or-replicate m.count (x - 1) false false (omega arith)
unmarked m x (y ∷ ys) n ns ap' =
    let ne : (x - 1) ≢ (y - 1) = λ e. ap'.0 (omega arith) in
    get_or-set_other (marks m.count ys) (y - 1) (x - 1) true false ne ∙ unmarked m x ys n ns.1 ap'.1

marked : (m : Map) (xs : List ℕ) → Nodes m xs → Different xs → count_by (λ (b : Bool). b) (marks m.count xs) ≡ length xs
marked m [] ns d = none_marked m.count
  where
    none_marked : (n : ℕ) → count_by (λ (b : Bool). b) (replicate n false) ≡ 0
    none_marked zero = refl
    none_marked (suc n) = none_marked n
marked m (x ∷ xs) ns d =
    let ih = marked m xs ns.1 d.1 in
    let len = length_marks m.count xs in
    let un = unmarked m x xs ns.0 ns.1 d.0 in
    let h = sum_by-set (λ (b : Bool). cond b 1 0) (marks m.count xs) (x - 1) true false (let n = ns.0 in omega arith) in
    let h' = subst (λ (b : Bool). count_by (λ (b : Bool). b) (marks m.count (x ∷ xs)) + cond b 1 0 ≡ count_by (λ (b : Bool). b) (marks m.count xs) + 1) un h in
    omega arith

-- different nodes are at most as many as there are nodes
pub few_nodes : (m : Map) (xs : List ℕ) → Nodes m xs → Different xs → length xs ≤ m.count
few_nodes m xs ns d = omega (arith, marked m xs ns d, count_by-le-length (λ (b : Bool). b) (marks m.count xs), length_marks m.count xs)

module _ (m : Map) (sound : Sound m) (r : ℕ) (root : Node m r) where
  pub path_node : (us : List ℕ) (v : ℕ) → Path m r v us → Node m v
  path_node [] v p = subst (λ (x : ℕ). Node m x) (sym p) root
  path_node (u ∷ us) v p = sound.leads u v p.0

  path_nodes : (us : List ℕ) (v : ℕ) → Path m r v us → Nodes m us
  path_nodes [] v p = tt
  path_nodes (u ∷ us) v p = (path_node us u p.2, path_nodes us u p.2)

  path_different : (us : List ℕ) (v : ℕ) → Path m r v us → Different us
  path_different [] v p = tt
  path_different (u ∷ []) v p = (tt, tt)
  path_different (u ∷ w ∷ us) v p = (p.2.1, path_different (w ∷ us) u p.2)

  path_apart : (us : List ℕ) (v : ℕ) → Path m r v us → Apart v us
  path_apart [] v p = tt
  path_apart (u ∷ us) v p = p.1

  pub path_few : (us : List ℕ) (v : ℕ) → Path m r v us → length us < m.count
  path_few us v p = few_nodes m (v ∷ us) (path_node us v p, path_nodes us v p) (path_apart us v p, path_different us v p)

  pub path_cost : (k : Meaning) (us : List ℕ) (v : ℕ) → Path m r v us → PathCost k (length us) (cost k m v us)
  path_cost k [] v p = none
  path_cost k (u ∷ us) v p = more (m.figure u v) (p.0, sound.fits u v) (path_cost k us u p.2)

  pub path_is_cost : (k : Meaning) (us : List ℕ) (v : ℕ) → Path m r v us → Cost k (cost k m v us)
  path_is_cost k us v p = record { lines = length us; few = omega (arith, path_few us v p, sound.small); path = path_cost k us v p }

  -- one line more, to any node at all
  pub path_cost_more : (k : Meaning) (us : List ℕ) (u v : ℕ) → Path m r u us → Joined m u v → Cost k (k.add (cost k m u us) (m.figure u v))
  path_cost_more k us u v p j = record { lines = suc (length us); few = omega (arith, path_few us u p, sound.small); path = more (m.figure u v) (j, sound.fits u v) (path_cost k us u p) }
