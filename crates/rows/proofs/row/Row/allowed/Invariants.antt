use Rattle.std.proofs.Common.{◌≡◌, drop}
use Rattle.rows.specs.Rows.{allowed, figures_fit}
use Rattle.rows.proofs.row.Row.allowed.Given as goal

abbrev pub invariant-loop-line : goal.invariant-loop-line
invariant-loop-line l = record {
  rest : allowed l.count l.node l.previous (drop l.line-index l.line-items) ≡ allowed l.count l.node 0 l.line-items;
  fits : figures_fit (drop l.line-index l.line-items) ≡ figures_fit l.line-items;
}
