-- Bytes that read are the form of what they say.
use Rattle.std.proofs.Common.{◌≡◌, ℕ, zero, suc, ◌+◌, ◌*◌, ◌/◌, ◌%◌, ◌<◌, ◌≤◌, true, nat_eq, nat_le, List, ◌∷◌, length, get_or, drop, Ok, sym, refl, ap, ◌∙◌, inl, inr, arith}
use Rattle.std.proofs.lemmas.List.{drop_more, take_all, length-drop, get_or-drop}
use Rattle.std.proofs.lemmas.Bool.{leb-true, eqb-true, and_parts}
use Rattle.std.proofs.lemmas.Bool.Decides.{nat_tests, leb_tells}
use Rattle.wire.specs.Fields.{word, value_of}
use Rattle.wire.specs.Lines.{lines_of, pair_bytes}
use Rattle.wire.specs.Reports.{Content, Allowed, said, report_questions, read_report}
use Rattle.wire.specs.Form.{age_byte, encode}
use Rattle.wire.specs.Laws.{Bytes, Undone}
use Rattle.wire.proofs.Judging.{all_yes, comes}
use Rattle.wire.proofs.Pairs.{lines_length, pairs_back, lawful}
use Rattle.wire.proofs.Passed.{AllPassed, all_passed}

-- n elements from i on, read one by one, and then the rest.
reads : ℕ → ℕ → List ℕ → List ℕ
reads zero i b = drop i b
reads (suc n) i b = get_or b i 0 ∷ reads n (i + 1) b

reads_all : (n i : ℕ) (b : List ℕ) → i + n ≤ length b → reads n i b ≡ drop i b
unfolding reads
reads_all zero i b h = refl
reads_all (suc n) i b h = ap (λ r. get_or b i 0 ∷ r) (reads_all n (i + 1) b (omega arith)) ∙ sym (drop_more b i 0 (omega arith))

one : (h l : ℕ) → nat_eq (h * 256 + l) 1 ≡ true → (h ≡ 0) × (l ≡ 1)
one h l e = let f = eqb-true (h * 256 + l) 1 e in (omega arith, omega arith)

age_back : (v : ℕ) → v < 256 → age_byte (v % 128) (nat_le 128 v) ≡ v
age_back v h = elim (leb_tells 128 v) [
  | inl p ↦ rw p.0 (omega (arith, p.1))
  | inr p ↦ rw p.0 (omega (arith, p.1))
]

-- The head of good bytes has the tags and lengths of a report.
spell : (b l : List ℕ) (h w : ℕ) → 15 ≤ length b → get_or b 0 0 ≡ 1 → get_or b 1 0 ≡ 0 → get_or b 2 0 ≡ 1 → get_or b 4 0 ≡ 2 → get_or b 5 0 ≡ 0 → get_or b 6 0 ≡ 1
    → get_or b 8 0 ≡ 3 → get_or b 9 0 ≡ 0 → get_or b 10 0 ≡ 1 → get_or b 12 0 ≡ 4 → h ≡ get_or b 13 0 → w ≡ get_or b 14 0 → l ≡ drop 15 b
    → 1 ∷ 0 ∷ 1 ∷ get_or b 3 0 ∷ 2 ∷ 0 ∷ 1 ∷ get_or b 7 0 ∷ 3 ∷ 0 ∷ 1 ∷ get_or b 11 0 ∷ 4 ∷ h ∷ w ∷ l ≡ b
unfolding reads
spell b l h w n e0 e1 e2 e4 e5 e6 e8 e9 e10 e12 e13 e14 e15 = let s = reads_all 15 0 b n in cc

module _ (b : List ℕ) (bytes : Bytes b) (ok : AllPassed b) where
  sizes : (word 13 b % 3 ≡ 0) × (word 13 b ≤ 24)
  sizes = let p = and_parts (nat_eq (word 13 b % 3) 0) (nat_le (word 13 b) 24) ok.pairs.size in
      (eqb-true (word 13 b % 3) 0 p.0, leb-true (word 13 b) 24 p.1)

  pairs_rest : value_of 12 b ≡ drop 15 b
  pairs_rest = take_all (word 13 b) (drop 15 b) (simp length-drop (omega (arith, ok.whole)))

  pairs_length : length (drop 15 b) ≡ word 13 b
  pairs_length = simp length-drop (omega (arith, ok.whole, ok.pairs.there))

  bytes_rest : Bytes (value_of 12 b)
  bytes_rest k = rw (pairs_rest, get_or-drop 15 b k 0) (bytes (15 + k))

  pub pairs_kept : pair_bytes (lines_of (value_of 12 b)) ≡ value_of 12 b
  pairs_kept = pairs_back (value_of 12 b) (rw (pairs_rest, pairs_length) sizes.0) bytes_rest

  pairs_same : pair_bytes (lines_of (value_of 12 b)) ≡ drop 15 b
  pairs_same = pairs_kept ∙ pairs_rest

  pub form : encode (said b) ≡ b
  form =
      let u = one (get_or b 1 0) (get_or b 2 0) ok.origin.size in
      let v = one (get_or b 5 0) (get_or b 6 0) ok.serial.size in
      let w = one (get_or b 9 0) (get_or b 10 0) ok.age.size in
      rw (pairs_same, pairs_length, age_back (get_or b 11 0) (bytes 11))
      (spell b (drop 15 b) (word 13 b / 256 % 256) (word 13 b % 256) (omega (arith, ok.pairs.there))
      ok.origin.tagged u.0 u.1 ok.serial.tagged v.0 v.1 ok.age.tagged w.0 w.1 ok.pairs.tagged
      (omega (arith, bytes 13, bytes 14)) (omega (arith, bytes 14)) refl)

  pub allowed : Allowed (said b)
  allowed =
      let o = ok.origin.good in
      let s = ok.serial.good in
      let a = ok.age.good in
      record {
        origin_low = grind (arith, nat_tests);
        origin_high = grind (arith, nat_tests);
        serial_high = leb-true (get_or b 7 0) 63 s;
        age_low = grind (arith, nat_tests);
        age_high = grind (arith, nat_tests);
        few = omega (arith, lines_length (value_of 12 b), ap length pairs_rest, pairs_length, sizes.1);
        lawful = lawful (get_or b 3 0) 0 15 (value_of 12 b) bytes_rest ok.lines;
      }

pub undone : Undone
unfolding read_report
undone b q bytes e =
    let ok = all_passed b (all_yes (report_questions b) (said b) q e) in
    rw (← comes (report_questions b) (said b) q e) (allowed b bytes ok, form b bytes ok)

-- The pairs of bytes that read are the bytes of their lines.
pub pairs_whole : (b : List ℕ) (q : Content) → Bytes b → read_report b ≡ Ok q → value_of 12 b ≡ pair_bytes (lines_of (value_of 12 b))
unfolding read_report
pairs_whole b q bytes e = sym (pairs_kept b bytes (all_passed b (all_yes (report_questions b) (said b) q e)))
