-- Where the threshold is not 0, some slot has to have moved.
use Rattle.std.proofs.Common.{◌≡◌, Bool, ◌||◌, List, [], ◌∷◌, map, rules, sym, refl, ap, ◌∙◌}
use Rattle.std.proofs.lemmas.Iterator.{YieldsList-from_slice}
use Rattle.std.proofs.lemmas.Iterator.Search.{any_from_yields_List}
use Rattle.std.specs.List.{list_any}
use Rattle.slots.specs.Slots.{shown}
use Rattle.slots.specs.Thresholds.{moved, threshold_of}
use Rattle.ports.specs.Closing.{some_moved}
use Rattle.ports.proofs.closing.is_due.Goals as goal

list_any_map : {X Y : Type 0} (p : Y → Bool) (h : X → Y) (xs : List X) → list_any (λ x. p (h x)) xs ≡ list_any p (map h xs)
list_any_map p h [] = refl
list_any_map p h (x ∷ xs) = ap (λ b. p (h x) || b) (list_any_map p h xs)

pub returns-else-is_zero : goal.returns-else-is_zero
returns-else-is_zero c =
    let t = threshold_of c.args.threshold in
    let slots = c.args.slots.now in
    any_from_yields_List (λ s. moved t (shown s)) _ _ c.any.result c.any.ensures.ran (YieldsList-from_slice slots cc) (λ x b q k. search rules)
    ∙ list_any_map (moved t) shown slots ∙ sym (ap (λ b. b || some_moved t (map shown slots)) (sym c.is_zero.ensures ∙ c.if-is_zero.false))
