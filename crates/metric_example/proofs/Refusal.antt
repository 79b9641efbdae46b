-- Worst figure first, then fewest lines, breaks the third law. Assumes nothing.
use Rattle.std.proofs.Common.{◌≡◌, ℕ, ◌+◌, ◌*◌, ◌≤◌, max, List, [], ◌∷◌, length, fold, refl, ap, ◌∙◌, arith}
use Rattle.std.specs.List.{AllByRecursion}
use Rattle.std.proofs.lemmas.Bool.{both_ways}
use Rattle.metric.specs.Meaning.{Figure, largest_figure, along}
use Rattle.metric.specs.Metrics.{capped, worst}
use Rattle.metric.proofs.PathCosts.{along_cost}
use Rattle.metric.proofs.TwoParts.{first_then_second, worst_fits}
use Rattle.metric_example.specs.WorstFirst.{WorstFirst, worst_first, Reversed, Lawless}

written_from : (n w : ℕ) → w ≤ largest_figure → (fs : List ℕ) → AllByRecursion Figure fs → n + length fs ≤ 64
    → fold worst_first.add (capped (w * 65536 + n)) fs ≡ capped (fold max w fs * 65536 + (n + length fs))
written_from n w fits [] ok few = omega arith
written_from n w fits (f ∷ fs) ok few =
    let step : worst_first.add (capped (w * 65536 + n)) f ≡ capped (max w f * 65536 + (n + 1)) = omega arith in
    ap (λ (c : ℕ). fold worst_first.add c fs) step ∙ written_from (n + 1) (max w f) (omega arith) fs ok.1 (omega arith) ∙ omega arith

written : (fs : List ℕ) → AllByRecursion Figure fs → length fs ≤ 64 → along worst_first fs ≡ capped (worst fs * 65536 + length fs)
written fs ok few = written_from 0 0 (omega arith) fs ok (omega arith) ∙ omega arith

pub is_worst_first : WorstFirst worst_first
is_worst_first a b oka okb la lb =
    rw (written a oka la, written b okb lb)
    (first_then_second (worst a) (worst b) (length a) (length b) (worst_fits a oka) (worst_fits b okb) (omega arith) (omega arith))

pub reversed : Reversed
reversed = record { before = refl; after = refl }

three : Figure 3
three = (omega arith, omega arith)

five : Figure 5
five = (omega arith, omega arith)

nine : Figure 9
nine = (omega arith, omega arith)

abbrev many : List ℕ
many = 3 ∷ 3 ∷ 3 ∷ 3 ∷ 3 ∷ []

many_figures : AllByRecursion Figure many
many_figures = (three, (three, (three, (three, (three, tt)))))

-- The one line is not less than the five; by the third law a further line of 9 does not make it less, and it does.
pub lawless : Lawless
lawless m first laws =
    let kept = laws.keeps (along m many) (along m (5 ∷ [])) 9
    (along_cost m 64 many many_figures (omega arith)) (along_cost m 64 (5 ∷ []) (five, tt) (omega arith)) nine
    (first (5 ∷ []) many (five, tt) many_figures (omega arith) (omega arith)) in
    let turned = first (5 ∷ 9 ∷ []) (3 ∷ 3 ∷ 3 ∷ 3 ∷ 3 ∷ 9 ∷ []) (five, (nine, tt)) (three, (three, (three, (three, (three, (nine, tt))))))
    (omega arith) (omega arith) in
    both_ways _ kept turned
