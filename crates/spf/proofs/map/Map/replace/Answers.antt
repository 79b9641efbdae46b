use Rattle.std.proofs.Common.{◌≡◌, ℕ, ◌-◌, true, set, sym, refl, arith}
use mathlib.Core.Path.{subst⁻¹}
use Rattle.spf.specs.Rows.{allowed_rows}
use Rattle.spf.proofs.Held.{rows_set}
use Rattle.spf.proofs.map.Map.replace.Goals as goal

pub invariant_of-self-clause-allowed : goal.invariant_of-self-clause-allowed
invariant_of-self-clause-allowed c =
    let m = c.args.self.now in
    let yes' = c.if-not-allowed.ensures in
    subst⁻¹ (λ (n : ℕ). allowed_rows m.count 1 (set m.rows (n - 1) c.args.row.now) ≡ true) c.from.ensures
    (rows_set m.count c.args.node m.rows c.args.row.now m.allowed (omega arith) (omega arith) (sym yes'.value) (yes'.fits refl))
