-- Entries that are aged.
use Rattle.std.proofs.Common.{◌≡◌, ℕ, ◌+◌, ◌<◌, true, List, map, length, get_or, sym, ◌∙◌, arith}
use Rattle.std.proofs.lemmas.List.{ext_get_or, get_or-map, length-map}
use Rattle.std.proofs.lemmas.Bool.Decides.{nat_tests}
use Rattle.entries.specs.declared.entry.Entry.{Entry}
use Rattle.entries.specs.Entries.{sound_entry, missing, aged}
use Rattle.database.proofs.Kept.{Sound}

one_sound : (count node : ℕ) (e : Entry) → sound_entry count node e ≡ true → sound_entry count node (aged e) ≡ true
one_sound count node e h = grind (arith, nat_tests)

pub aged_sound : (count : ℕ) (es : List Entry) → length es ≡ 64 → Sound count es → Sound count (map aged es)
aged_sound count es n h k lt = rw (get_or-map aged es k missing missing (omega arith)) (one_sound count (k + 1) (get_or es k missing) (h k lt))

-- A list whose elements are those of another, aged.
pub aged_is : (es ys : List Entry) → length es ≡ 64 → length ys ≡ 64 → ((k : ℕ) → k < 64 → get_or ys k missing ≡ aged (get_or es k missing)) → ys ≡ map aged es
aged_is es ys n m each =
    ext_get_or missing ys (map aged es) (m ∙ sym (length-map es aged ∙ n)) (λ k l. each k (omega arith) ∙ sym (get_or-map aged es k missing missing (omega arith)))
