-- A metric with a floor under its figures draws the four laws from the metric that it is built of. Assumes nothing.
use Rattle.std.proofs.Common.{ℕ, ◌≤◌, max, arith}
use Rattle.metric.specs.Meaning.{Meaning, Figure, PathCost, none, more, Cost, largest_figure}
use Rattle.metric.specs.Laws.{Laws}
use Rattle.metric_example.specs.Floors.{floored}

module _ (least : ℕ) (fits : least ≤ largest_figure) (m : Meaning) where
  raised : (f : ℕ) → Figure f → Figure (max f least)
  raised f ok = (omega arith, omega arith)

  -- its path costs are path costs of that metric, of as many lines
  path_below : {k c : ℕ} → PathCost (floored least m) k c → PathCost m k c
  path_below none = none
  path_below (more f ok p) = more (max f least) (raised f ok) (path_below p)

  below : {c : ℕ} → Cost (floored least m) c → Cost m c
  below c = record { lines = c.lines; few = c.few; path = path_below c.path }

  pub floor_laws : Laws m → Laws (floored least m)
  floor_laws laws = record {
    transitive = λ a b c ca cb cc. laws.transitive a b c (below ca) (below cb) (below cc);
    irreflexive = λ a ca. laws.irreflexive a (below ca);
    total = λ a b ca cb. laws.total a b (below ca) (below cb);
    rises = λ a f ca ok. laws.rises a (max f least) (below ca) (raised f ok);
    keeps = λ a b f ca cb ok. laws.keeps a b (max f least) (below ca) (below cb) (raised f ok);
    swaps = λ a f g ca ok ok'. laws.swaps a (max f least) (max g least) (below ca) (raised f ok) (raised g ok');
  }
