-- A head and then pairs, laid into a buffer.
use Rattle.std.proofs.Common.{◌≡◌, ℕ, ◌+◌, ◌*◌, ◌<◌, ◌≤◌, List, ◌++◌, length, get_or, take, drop, Ok, Err, sym, refl, ap, ◌∙◌, arith}
use borrow.Rule.Slice.PartMut.{put_mid}
use Rattle.std.proofs.lemmas.List.{take_at, drop-drop, append-nil, length-append, length-take, length-drop, take_all, take_more, take-append-drop, flat_map_more}
use Rattle.std.proofs.lemmas.Slice.{take-put_mid, drop-put_mid, drop-append-drop}
use Rattle.std.proofs.lemmas.Bool.{le-leb, lt-leb}
use Rattle.wire_write.specs.declared.write.WriteFault.TheVariants.{BufferTooShort}
use Rattle.wire.specs.declared.lines.Line.{Line}
use Rattle.wire.specs.Lines.{line_bytes, pair_bytes}
use Rattle.wire.specs.Reports.{Content, Allowed, read_report}
use Rattle.wire.specs.Form.{encode}
use Rattle.wire_write.specs.Putting.{put, put_answer}
use Rattle.wire.proofs.Pairs.{pairs_length}
use Rattle.wire.proofs.Back.{returned}

-- What fits is put.
pub put_fits : (new old : List ℕ) → length new ≤ length old → put new old ≡ new ++ drop (length new) old
put_fits new old l = rw (le-leb (length new) (length old) l)

pub answer_fits : (new old : List ℕ) (n : ℕ) → length new ≡ n → n ≤ length old → Ok n ≡ put_answer new old
answer_fits new old n e l = rw (le-leb (length new) (length old) (omega arith), e)

-- What does not fit is refused, and the buffer stays.
pub put_short : (new old : List ℕ) → length old < length new → (put new old ≡ old) × (put_answer new old ≡ Err BufferTooShort)
put_short new old l = let no = lt-leb (length new) (length old) l in (rw no, rw no)

-- The buffer while lines are written: the first `end` bytes are the head and the bytes of the first i lines, and the rest is as it was.
pub record Sofar (lines : List Line) (from out : List ℕ) (i end : ℕ) : Type 0 where
  pub at : end ≡ 15 + 3 * i
  pub size : length out ≡ length from
  pub front : take end out ≡ take 15 from ++ pair_bytes (take i lines)
  pub back : drop end out ≡ drop end from

pub none_yet : (lines : List Line) (from : List ℕ) → Sofar lines from from 0 15
none_yet lines from = record { at = refl; size = refl; front = sym (append-nil (take 15 from)); back = refl }

pub one_more : (lines : List Line) (from out v : List ℕ) (i end k : ℕ) (d : Line) → Sofar lines from out i end → i < length lines → v ≡ line_bytes (get_or lines i d)
    → k ≡ 3 → end + 3 ≤ length out → Sofar lines from (put_mid end k out v) (i + 1) (end + 3)
one_more lines from out v i end k d h l bytes three fits =
    let size3 : length v ≡ 3 = ap length bytes in
    record {
      at = omega (arith, h.at);
      size = rw (length-append (take end out), length-append v) (simp (length-drop, length-take) (omega (arith, h.size)));
      front =
          take-put_mid end k out v (end + 3) (omega arith) (omega arith)
          ∙ (λ j. h.front j ++ bytes j)
          ∙ flat_map_more line_bytes (take 15 from) (take i lines) (get_or lines i d)
          ∙ ap (λ t. take 15 from ++ pair_bytes t) (sym (take_more lines i d l));
      back =
          drop-put_mid end k out v (end + 3) (omega arith) (omega arith) (omega arith)
          ∙ sym (drop-drop 3 end out) ∙ ap (drop 3) h.back ∙ drop-drop 3 end from;
    }

-- When all lines are written, the report stands in the buffer.
pub all_laid : (lines : List Line) (h b from out : List ℕ) (i end : ℕ) → length h ≡ 15 → 15 + 3 * length lines ≤ length b → from ≡ h ++ drop 15 b
    → Sofar lines from out i end → length lines ≤ i → i ≤ length lines → (out ≡ put (h ++ pair_bytes lines) b) × (end ≡ length (h ++ pair_bytes lines))
all_laid lines h b from out i end e l is s low high =
    let n : length (h ++ pair_bytes lines) ≡ 15 + 3 * length lines = length-append h (pair_bytes lines) ∙ (λ j. e j + pairs_length lines j) in
    let m : end ≡ length (h ++ pair_bytes lines) = omega (arith, s.at, n) in
    let front : take end out ≡ h ++ pair_bytes lines =
    s.front ∙ (λ j. take 15 (is j) ++ pair_bytes (take_all i lines low j)) ∙ ap (λ t. t ++ pair_bytes lines) (take_at h (drop 15 b) 15 e) in
    let back : drop end out ≡ drop (length (h ++ pair_bytes lines)) b =
    s.back ∙ (λ j. drop end (is j)) ∙ drop-append-drop 15 b h end (omega arith) e ∙ ap (λ k. drop k b) m in
    (sym (take-append-drop end out) ∙ (λ j. front j ++ back j) ∙ sym (put_fits (h ++ pair_bytes lines) b (omega arith)), m)

-- What was put is read back.
pub put_returns : (q : Content) (old out : List ℕ) (n : ℕ) → Allowed q → out ≡ put (encode q) old → n ≡ length (encode q) → n ≤ length old
    → read_report (take n out) ≡ Ok q
put_returns q old out n ok is e l =
    let front : take n out ≡ encode q =
    ap (take n) (is ∙ put_fits (encode q) old (omega arith)) ∙ take_at (encode q) (drop (length (encode q)) old) n (sym e) in
    ap read_report front ∙ returned q ok
