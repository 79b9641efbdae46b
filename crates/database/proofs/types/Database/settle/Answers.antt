use Rattle.std.proofs.Common.{◌≡◌, ◌+◌, true, sym, refl, ap, ◌∙◌, arith, rules}
use Rattle.std.proofs.lemmas.List.{length-set}
use Rattle.wire.specs.Reports.{content}
use denote.Enum.Bare.{same_true}
use Rattle.entries.specs.contracts.verdicts.Taken.{the_type}
use Rattle.database.specs.States.{state}
use Rattle.entries.specs.Entries.{sound_entry}
use Rattle.database.proofs.Kept.{kept_at}
use Rattle.database.proofs.Heard.{heard_sound, origin_low, origin_within}
use Rattle.database.proofs.Settled.{verdict_is, accepted_leaves}
use Rattle.database.proofs.types.Database.settle.Goals as goal

pub invariant_of-self : goal.invariant_of-self
invariant_of-self c =
    let db = c.args.self.now in
    let q = content c.args.heard.now.report in
    let i = c.place-place.result in
    let high = origin_within db.count q c.requires in
    let is : i + 1 ≡ q.header.origin = c.place-place.ensures.from_1 (origin_low q c.args.heard.now.allowed) in
    let s : sound_entry db.count q.header.origin c.entry.result ≡ true = ap (sound_entry db.count q.header.origin) c.entry.ensures ∙ heard_sound db.count q c.args.heard.now.allowed c.requires in
    record {
      range = db.range;
      full = length-set db.entries i _ ∙ db.full;
      sound = kept_at db.count db.entries q.header.origin i _ is (omega (arith, db.range)) db.full s db.sound;
    }

pub returns-then-eq : goal.returns-then-eq
returns-then-eq c =
    let s = state c.args.self.now in
    let q = content c.args.heard.now.report in
    let is : c.place-place.result + 1 ≡ q.header.origin = c.place-place.ensures.from_1 (origin_low q c.args.heard.now.allowed) in
    let accepted = same_true the_type (search rules) _ _ (sym c.if-eq.ensures) in
    record {
      answer = (refl, verdict_is s q c.place-place.result is c.compare-freshness.result c.verdict-taken.result c.compare-freshness.ensures.value c.verdict-taken.ensures);
      left = accepted_leaves s q c.place-place.result is c.entry.result c.verdict-taken.result c.entry.ensures accepted;
    }

pub returns-else-eq-clause-answer : goal.returns-else-eq-clause-answer
returns-else-eq-clause-answer c =
    let s = state c.args.self.now in
    let q = content c.args.heard.now.report in
    let is : c.place-place.result + 1 ≡ q.header.origin = c.place-place.ensures.from_1 (origin_low q c.args.heard.now.allowed) in
    (refl, verdict_is s q c.place-place.result is c.compare-freshness.result c.verdict-taken.result c.compare-freshness.ensures.value c.verdict-taken.ensures)
