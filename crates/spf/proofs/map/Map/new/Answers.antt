use Rattle.std.proofs.Common.{◌≡◌, true, replicate, refl, ap, ◌∙◌}
use mathlib.Core.Path.{subst⁻¹}
use Rattle.rows.specs.declared.row.Row.{Row}
use Rattle.spf.specs.Rows.{allowed_rows, figures}
use Rattle.spf.proofs.Held.{rows_none, bare}
use Rattle.spf.proofs.map.Map.new.Goals as goal

pub invariant_of-result-clause-allowed : goal.invariant_of-result-clause-allowed
invariant_of-result-clause-allowed c = subst⁻¹ (λ (row : Row). allowed_rows c.args.count 1 (replicate 64 row) ≡ true) c.new.ensures (rows_none c.args.count 1 64)

pub returns-clause-law : goal.returns-clause-law
returns-clause-law c = (refl, λ u v. ap (λ (row : Row). figures (replicate 64 row) u v) c.new.ensures ∙ bare 64 u v)
