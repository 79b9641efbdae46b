-- Reports of a slice, taken one after the other.
use Rattle.std.proofs.Common.{◌≡◌, ℕ, ◌+◌, ◌<◌, List, [], length, get_or, take, sym, ap, ◌∙◌, Bor, arith}
use Rattle.std.proofs.lemmas.List.{get_or-map, length-map}
use Rattle.std.proofs.lemmas.List.Sums.{fold_more}
use Rattle.database.specs.States.{State}
use Rattle.database.specs.Taking.{take_state}
use Rattle.database_order.specs.Orders.{taken_all, bytes_of}

pub one_more : (s t u : State) (rs : List (Bor (List ℕ))) (i : ℕ) (d : Bor (List ℕ)) → i < length rs → t ≡ taken_all s (take i (bytes_of rs)) → u ≡ take_state t (get_or rs i d).now
    → u ≡ taken_all s (take (i + 1) (bytes_of rs))
one_more s t u rs i d within so_far step =
    step ∙ ap (λ x. take_state x (get_or rs i d).now) so_far ∙ ap (take_state (taken_all s (take i (bytes_of rs)))) (sym (get_or-map (λ x. x.now) rs i d [] within))
    ∙ sym (fold_more take_state s (bytes_of rs) i [] (omega (arith, length-map rs (λ x. x.now))))
