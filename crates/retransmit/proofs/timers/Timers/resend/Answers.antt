use Rattle.std.proofs.Common.{◌≡◌, ◌+◌, ◌<◌, ◌≤◌, ◌++◌, [], length, get_or, take, drop, Ok, sym, ap, ◌∙◌, arith, rules}
use Rattle.std.proofs.lemmas.List.{take_at}
use Rattle.database.specs.States.{state}
use Rattle.retransmit.specs.Resending.{lowered_for, due_in, due_on, or_else}
use Rattle.retransmit.proofs.Every.{Full, row_set}
use Rattle.retransmit.proofs.Listed.{exactly}
use Rattle.retransmit.proofs.Asking.{all_asked}
use Rattle.retransmit.proofs.Listing.{same_due}
use Rattle.retransmit.proofs.timers.Timers.resend.Goals as goal

pub returns : goal.returns
returns c =
    let db = state c.args.database.now in
    let slot = c.args.slot in
    let list = c.args.list.now in
    let ts = c.args.self.now.left in
    let h : Full ts = record { full = c.args.self.now.full; each = c.args.self.now.each } in
    let i = c.place-place.result in
    let within : i < 8 = search rules in
    let number : i + 1 ≡ slot = c.place-place.ensures.within (omega arith) in
    let timers : c.in_ok-timers.timers.now ≡ get_or ts i [] = search rules in
    let n = c.list_due-listed.result in
    let long : db.count ≤ length list = omega (arith, c.count.ensures.value) in
    let few : db.count ≤ 64 = omega (arith, c.count.ensures.value, c.count.ensures.range) in
    let asked = λ (X : Type 0) (x : X). all_asked db slot list x (omega arith) (omega arith) long in
    let due : due_in db c.in_ok-timers.timers.now ≡ due_on db slot ts = same_due db slot ts c.in_ok-timers.timers.now i number timers in
    let size : length (due_on db slot ts) ≡ n = ap length (sym due) ∙ sym c.list_due-listed.ensures.answer in
    let put : c.list_due-listed.new.list ≡ due_on db slot ts ++ drop n list = c.list_due-listed.ensures.listed ∙ ap (λ xs. xs ++ drop n list) due in
    let front : take n c.list_due-listed.new.list ≡ due_on db slot ts = ap (take n) put ∙ take_at (due_on db slot ts) (drop n list) n size in
    let lowered = (row_set ts h slot (lowered_for db) i _ number within c.count_down.ensures.size c.count_down.ensures.each).1 in
    record {
      answer = ap Ok (sym size) ∙ sym (asked _ _);
      timers = lowered ∙ sym (ap (λ r. or_else r ts) (asked _ _));
      listed = put ∙ ap (λ k. due_on db slot ts ++ drop k list) (sym size) ∙ sym (ap (λ r. or_else r list) (asked _ _));
      exactly = rw front (exactly db slot ts few);
    }
