use Rattle.std.proofs.Common.{◌≡◌, ℕ, ◌-◌, ◌<◌, List, length, take, drop, refl, ap, arith, true-eqb, false-eqb}
use Rattle.std.proofs.lemmas.List.{take_rest}
use Rattle.script.proofs.Cutting.{Cut, first, none}
use Rattle.script.proofs.line.WordsIterator.next.Goals as goal
use Rattle.script.proofs.line.WordsIterator.next.Goals.{After-is_empty}

-- the bytes that are left, and the same without the blanks in front
abbrev left : After-is_empty → List ℕ
left c = c.args.self.now.rest.now

abbrev behind : After-is_empty → List ℕ
behind c = take (length (left c) - c.front.result) (drop c.front.result (left c))

cut : (c : After-is_empty) → Cut (left c) (behind c) c.split_at.result.0.now c.split_at.result.1.now c.front.result c.front-2.result
cut c = record {
  blanks = c.front.ensures.value;
  behind = take_rest c.args.self.now.rest.now c.front.result;
  solids = c.front-2.ensures.value;
  front = c.split_at.ensures.front;
  back = c.split_at.ensures.back;
}

pub returns-then-is_empty-clause-steps : goal.returns-then-is_empty-clause-steps
returns-then-is_empty-clause-steps c =
    let no : c.front-2.result ≡ 0 = omega (arith, c.split_at.ensures.front_len, true-eqb _ 0 c.if-is_empty.ensures) in
    (ap length (none (cut (goal.at.returns-then-is_empty-clause-steps c).After-is_empty) no), refl)

pub returns-clause-steps : goal.returns-clause-steps
returns-clause-steps c =
    let some : 0 < length c.split_at.result.0.now = omega (arith, false-eqb _ 0 c.if-is_empty.ensures) in
    first (cut (goal.at.returns-clause-steps c).After-is_empty) some
