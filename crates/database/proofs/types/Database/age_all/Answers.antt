use Rattle.std.proofs.Common.{◌≡◌, List, ap, ◌∙◌}
use Rattle.std.proofs.lemmas.List.{length-map}
use Rattle.entries.specs.declared.entry.Entry.{Entry}
use Rattle.entries.specs.Entries.{aged}
use Rattle.database.proofs.Aged.{aged_is, aged_sound}
use Rattle.database.proofs.types.Database.age_all.Goals as goal

pub invariant_of-self : goal.invariant_of-self
invariant_of-self c =
    let db = c.args.self.now in
    let e = aged_is db.entries c.age_each.new.entries db.full c.age_each.ensures.size c.age_each.ensures.each in
    rw e (record { range = db.range; full = length-map db.entries aged ∙ db.full; sound = aged_sound db.count db.entries db.full db.sound })

pub returns-clause-left : goal.returns-clause-left
returns-clause-left c =
    let db = c.args.self.now in
    ap (λ (es : List Entry). record { count = db.count; root = db.root; entries = es }) (aged_is db.entries c.age_each.new.entries db.full c.age_each.ensures.size c.age_each.ensures.each)
