use Rattle.std.proofs.Common.{◌≡◌, ◌+◌, ◌≤◌, true, false, if◌then◌else◌, nat_le, length, get_or, Ok, Err, sym, ap, ◌∙◌, arith}
use Rattle.wire.specs.declared.fault.Question.TheVariants as question
use Rattle.std.proofs.lemmas.Result.{err_from_is_err_and}
use Rattle.std.proofs.lemmas.Bool.{le-leb, lt-leb}
use Rattle.wire.specs.Lines.{lines_of}
use Rattle.wire.specs.Fields.{word, value_of}
use Rattle.wire.specs.Reports.{judge_lines, said, read_report, content}
use Rattle.wire.proofs.Chain.{stops_at_origin, stops_at_serial, stops_at_age, stops_at_pairs, stops_at_lines, ends}
use Rattle.wire.proofs.Forth.{undone, pairs_whole}
use Rattle.wire.proofs.Readings.{no_form, origin_is, serial_is, age_is, retry_is, pairs_are, pairs_fit, few_lines}
use Rattle.wire.proofs.report.Report.read.Goals as goal
use Rattle.wire.proofs.report.Report.read.Goals.{After-of, In_ok-check_lines}

pub returns-in_err-origin : goal.returns-in_err-origin
returns-in_err-origin c =
    let p = err_from_is_err_and c.from_residual.result c.from_residual.ensures.1 in
    let h = stops_at_origin c.args.bytes.now _ c.in_err-origin.ensures.value in
    rw (p.1, p.2) (record { value = h; exactly = no_form c.args.bytes.now _ h; part = tt; whole = tt })

pub returns-in_err-serial : goal.returns-in_err-serial
returns-in_err-serial c =
    let p = err_from_is_err_and c.from_residual-in_err-serial.result c.from_residual-in_err-serial.ensures.1 in
    let h = stops_at_serial c.args.bytes.now _ c.in_ok-origin.ensures.value _ c.in_err-serial.ensures.value in
    rw (p.1, p.2) (record { value = h; exactly = no_form c.args.bytes.now _ h; part = tt; whole = tt })

pub returns-in_err-age : goal.returns-in_err-age
returns-in_err-age c =
    let p = err_from_is_err_and c.from_residual-in_err-age.result c.from_residual-in_err-age.ensures.1 in
    let h =
    stops_at_age c.args.bytes.now _ c.in_ok-origin.ensures.value _ c.in_ok-serial.ensures.value _
    c.in_err-age.ensures.value in
    rw (p.1, p.2) (record { value = h; exactly = no_form c.args.bytes.now _ h; part = tt; whole = tt })

pub returns-in_err-pairs : goal.returns-in_err-pairs
returns-in_err-pairs c =
    let p = err_from_is_err_and c.from_residual-in_err-pairs.result c.from_residual-in_err-pairs.ensures.1 in
    let h =
    stops_at_pairs c.args.bytes.now _ c.in_ok-origin.ensures.value _ c.in_ok-serial.ensures.value _
    c.in_ok-age.ensures.value _ c.in_err-pairs.ensures.value in
    rw (p.1, p.2) (record { value = h; exactly = no_form c.args.bytes.now _ h; part = tt; whole = tt })

-- what a call answered is what it promised
called : {X : Type 0} (r x y z : X) → r ≡ x → r ≡ y → y ≡ z → x ≡ z
called r x y z a b c = sym a ∙ b ∙ c

-- the pairs, as far as they are read
fits : (c : After-of) → (length c.in-Origin-Serial-Age-Pairs.pairs.now ≡ word 13 c.args.bytes.now) × (word 13 c.args.bytes.now ≤ 24) × (15 + word 13 c.args.bytes.now ≤ length c.args.bytes.now)
fits c = pairs_fit c.args.bytes.now _ c.in-Origin-Serial-Age-Pairs.pairs c.in-Origin-Serial-Age-Pairs.is-3 c.in_ok-pairs.ensures.value

-- the lines that are checked are those that the bytes say
same_lines : (c : After-of)
    → judge_lines c.in-Origin-Serial-Age-Pairs.origin 0 15 (lines_of c.of.result.rest.now)
    ≡ judge_lines (get_or c.args.bytes.now 3 0) 0 15 (lines_of (value_of 12 c.args.bytes.now))
same_lines c =
    let o = origin_is c.args.bytes.now _ c.in-Origin-Serial-Age-Pairs.origin c.in-Origin-Serial-Age-Pairs.is-0 c.in_ok-origin.ensures.value in
    let p = pairs_are c.args.bytes.now _ c.in-Origin-Serial-Age-Pairs.pairs c.in-Origin-Serial-Age-Pairs.is-3 c.in_ok-pairs.ensures.value in
    λ i. judge_lines (sym o i) 0 15 (lines_of ((ap (λ x. x.now) c.of.ensures ∙ sym p) i))

pub check_lines-requires : goal.check_lines-requires
check_lines-requires c =
    rw c.of.ensures (few_lines c.args.bytes.now _ c.in-Origin-Serial-Age-Pairs.pairs c.in-Origin-Serial-Age-Pairs.is-3 c.in_ok-pairs.ensures.value)

pub returns-in_err-check_lines : goal.returns-in_err-check_lines
returns-in_err-check_lines c =
    let p = err_from_is_err_and c.from_residual-in_err-check_lines.result c.from_residual-in_err-check_lines.ensures.1 in
    let h =
    stops_at_lines c.args.bytes.now _ c.in_ok-origin.ensures.value _ c.in_ok-serial.ensures.value _
    c.in_ok-age.ensures.value _ c.in_ok-pairs.ensures.value c.in_err-check_lines.field-0.0
    (called c.check_lines.result _ _ _ c.in_err-check_lines.was c.check_lines.ensures (same_lines (goal.at.returns-in_err-check_lines c).After-of)) in
    rw (p.1, p.2) (record { value = h; exactly = no_form c.args.bytes.now _ h; part = tt; whole = tt })

-- what is left to ask at the end
at_end : (c : In_ok-check_lines)
    → judge_lines c.in-Origin-Serial-Age-Pairs.origin 0 15 (lines_of c.of.result.rest.now)
    ≡ judge_lines (get_or c.args.bytes.now 3 0) 0 15 (lines_of (value_of 12 c.args.bytes.now))
    → read_report c.args.bytes.now
    ≡ (if nat_le (length c.args.bytes.now) (15 + word 13 c.args.bytes.now) then Ok (said c.args.bytes.now)
    else Err (record { question = question.NothingLeftOver; place = 15 + word 13 c.args.bytes.now }))
at_end c same =
    ends c.args.bytes.now _ c.in_ok-origin.ensures.value _ c.in_ok-serial.ensures.value _
    c.in_ok-age.ensures.value _ c.in_ok-pairs.ensures.value
    (called c.check_lines.result _ _ _ c.in_ok-check_lines.was c.check_lines.ensures same)

pub returns-then-end-bytes : goal.returns-then-end-bytes
returns-then-end-bytes c =
    let w = goal.at.returns-then-end-bytes c in
    let f = fits w.After-of in
    let no : nat_le (length c.args.bytes.now) (15 + word 13 c.args.bytes.now) ≡ false = lt-leb (length c.args.bytes.now) (15 + word 13 c.args.bytes.now) (omega (arith, f.0)) in
    let e = at_end w.In_ok-check_lines (same_lines w.After-of) in
    let h : Err c.at.result ≡ read_report c.args.bytes.now = ap Err c.at.ensures ∙ rw f.0 (sym (rw no at e)) in
    record { value = h; exactly = no_form c.args.bytes.now _ h; part = tt; whole = tt }

pub returns : goal.returns
returns c =
    let w = goal.at.returns c in
    let b = c.args.bytes.now in
    let f = fits w.After-of in
    let all : nat_le (length b) (15 + word 13 b) ≡ true = le-leb (length b) (15 + word 13 b) (omega (arith, f.0)) in
    let e = at_end w.In_ok-check_lines (same_lines w.After-of) in
    let o = origin_is b _ _ c.in-Origin-Serial-Age-Pairs.is-0 c.in_ok-origin.ensures.value in
    let s = serial_is b _ _ c.in-Origin-Serial-Age-Pairs.is-1 c.in_ok-serial.ensures.value in
    let a = age_is b _ _ _ c.in-Origin-Serial-Age-Pairs.is-2 c.in_ok-age.ensures.value in
    let r = retry_is b _ _ _ c.in-Origin-Serial-Age-Pairs.is-2 c.in_ok-age.ensures.value in
    let p = pairs_are b _ _ c.in-Origin-Serial-Age-Pairs.is-3 c.in_ok-pairs.ensures.value in
    let value : read_report b ≡ Ok (content (record { header = record { origin = c.in-Origin-Serial-Age-Pairs.origin; serial = c.in-Origin-Serial-Age-Pairs.serial; age = c.in-Origin-Serial-Age-Pairs.age; retry = c.in-Origin-Serial-Age-Pairs.retry }; pairs = c.in-Origin-Serial-Age-Pairs.pairs }))
    = rw (← o, ← s, ← a, ← r, ← p) (rw all at e) in
    record {
      value = sym value;
      exactly = undone b _ (λ k. (c.type_inv.bytes k).fits) value;
      part = simp c.in-Origin-Serial-Age-Pairs.is-3 at c.in_ok-pairs.ensures.part;
      whole = rw p at (pairs_whole b _ (λ k. (c.type_inv.bytes k).fits) value);
    }
