-- The examples of the serial premise, computed.
use Rattle.std.proofs.Common.{◌≡◌, ℕ, ◌-◌, false, if◌then◌else◌, ◌==◌, List, [], ◌∷◌, replicate, Ok, Err, Result, sym, refl, ap, ◌∙◌, inl, inr, arith}
use Rattle.std.proofs.lemmas.List.Elements.{All-from_recursion, All-contains}
use Rattle.std.proofs.lemmas.List.{get_or-replicate, get_or_past}
use Rattle.std.proofs.lemmas.List.Sorted.{IsPermutation-to_front}
use Rattle.std.proofs.lemmas.Bool.{cases_lt}
use Rattle.std.specs.List.{All}
use Rattle.wire.specs.declared.lines.Line.{Line}
use Rattle.wire.specs.Reports.{Content, read_report}
use Rattle.entries.specs.declared.verdicts.TakeFault.{TakeFault}
use Rattle.entries.specs.Entries.{fresh, missing}
use Rattle.database.specs.States.{held}
use Rattle.database.specs.Taking.{heard}
use Rattle.database_order.specs.Orders.{Among, Premise}
use Rattle.database_order.specs.Examples.{start, line, fitting, lines_of_two, early, late, other, Met, Needed}
use Rattle.database_order.proofs.Ends.{each_same}

says : ℕ → ℕ → Line → Content
says origin serial x = record { header = record { origin = origin; serial = serial; age = 7; retry = false }; lines = x ∷ [] }

-- the lines that each serial of the example brings
by_serial : ℕ → List Line
by_serial n = if n == 63 then line 1 200 ∷ [] else (if n == 5 then line 2 200 ∷ [] else line 3 300 ∷ [])

abbrev Known : Content → Type 0
Known p = (p.lines ≡ by_serial p.header.serial) × Among 63 p.header.serial

-- Of the reports that the bytes bring, each is known.
abbrev AllKnown : List ℕ → Type 0
AllKnown b = (p : Content) → heard 3 b ≡ Ok p → Known p

known : (r : Result Content TakeFault) (q p : Content) → r ≡ Ok q → r ≡ Ok p → Known q → Known p
known r q p a b k = let same : q ≡ p = cc in rw same at k

refused : (r : Result Content TakeFault) (f : TakeFault) (p : Content) → r ≡ Err f → r ≡ Ok p → Known p
refused r f p a b = absurd (cc)

all_known : All AllKnown fitting
unfolding read_report says by_serial
all_known =
    All-from_recursion AllKnown fitting (
      (λ p h. known _ (says 2 63 (line 1 200)) p refl h (refl, omega arith)),
      (
        (λ p h. refused _ _ p refl h),
        (
          (λ p h. known _ (says 1 5 (line 2 200)) p refl h (refl, omega arith)),
          ((λ p h. known _ (says 2 0 (line 3 300)) p refl h (refl, omega arith)), tt),
        ),
      ),
    )

lapsed : (origin : ℕ) → (held start origin).age ≡ 0
lapsed origin =
    elim (cases_lt (origin - 1) 64) [
      | inl h ↦ rw (get_or-replicate 64 (origin - 1) fresh missing h)
      | inr h ↦ rw (get_or_past (replicate 64 fresh) (origin - 1) missing h)
    ]

pub met : Met
unfolding read_report
met =
    record {
      premise =
          record {
            fit = λ origin.
                record {
                  first = 63;
                  start = λ f. absurd (omega (arith, lapsed origin));
                  reports = λ q b of. (All-contains AllKnown fitting b.0 all_known b.1 q b.2).1;
                };
            one = λ p q b c of serial.
                let known-p = All-contains AllKnown fitting b.0 all_known b.1 p b.2 in
                let known-q = All-contains AllKnown fitting c.0 all_known c.1 q c.2 in
                known-p.0 ∙ ap by_serial serial ∙ sym known-q.0;
          };
      forth = refl;
      back = refl;
    }

-- Two orders of two that end differently break the premise.
breaks : (b c : List ℕ) (x y : Line) → lines_of_two (b ∷ c ∷ []) ≡ x ∷ [] → lines_of_two (c ∷ b ∷ []) ≡ y ∷ [] → (x.figure ≡ y.figure → ⊥) → Premise start (b ∷ c ∷ []) → ⊥
breaks b c x y forth back differ ok =
    let same : lines_of_two (b ∷ c ∷ []) ≡ lines_of_two (c ∷ b ∷ []) = each_same start (b ∷ c ∷ []) (c ∷ b ∷ []) (IsPermutation-to_front (b ∷ []) c) ok 2 (omega arith) (omega arith) in
    let lines : x ∷ [] ≡ y ∷ [] = sym forth ∙ same ∙ back in
    let one : x ≡ y = cc in
    differ (ap (λ l. l.figure) one)

pub needed : Needed
unfolding read_report
needed =
    record {
      apart = breaks early late (line 1 200) (line 3 300) refl refl (λ e. omega arith);
      apart_forth = refl;
      apart_back = refl;
      twofold = breaks early other (line 1 200) (line 3 300) refl refl (λ e. omega arith);
      twofold_forth = refl;
      twofold_back = refl;
    }
