use Rattle.std.proofs.Common.{◌≡◌, ◌+◌, sym, ◌∙◌, arith}
use Rattle.std.proofs.lemmas.List.{length-set}
use Rattle.database.proofs.Kept.{kept_at, own_sound}
use Rattle.database.proofs.types.Database.originate.Goals as goal

pub invariant_of-self : goal.invariant_of-self
invariant_of-self c =
    let db = c.args.self.now in
    let r = db.range in
    let i = c.place-place.result in
    let is : i + 1 ≡ db.root = c.place-place.ensures.from_1 r.0 in
    let s = own_sound db.count db.root _ c.args.row r.1 (sym c.if-not-allowed.ensures.value) (c.allowed.ensures.fits c.if-not-allowed.false) in
    record { range = r; full = length-set db.entries i _ ∙ db.full; sound = kept_at db.count db.entries db.root i _ is (omega arith) db.full s db.sound }
