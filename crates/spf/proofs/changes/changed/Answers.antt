use Rattle.std.proofs.Common.{◌≡◌, length, ◌∙◌, rules}
use mathlib.Core.Path.{subst⁻¹}
use Rattle.spf.specs.Changes.{changed_count, CountsChanges}
use Rattle.spf.proofs.Counts.{changed_beside, counts_changes}
use Rattle.spf.proofs.changes.changed.Goals as goal

pub returns : goal.returns
returns c =
    let before = c.args.before.now in
    let after = c.args.after.now in
    let long : length before ≡ 64 = search rules in
    let wide : length after ≡ 64 = search rules in
    let all : c.differing.result ≡ changed_count before after = c.differing.ensures ∙ changed_beside before after long wide in
    record { value = all; law = subst⁻¹ (CountsChanges before after) all (counts_changes before after) }
