use Rattle.std.proofs.Common.{◌≡◌, length}
use Rattle.spf_tree.specs.Queues.{Queued}
use Rattle.spf_tree.proofs.Beginning.{up_to}
use Rattle.spf_tree.proofs.Mirror.{MirrorsTo}
use Rattle.spf_tree.proofs.search.Search.begin.Given as goal

abbrev pub invariant-loop-place : goal.invariant-loop-place
invariant-loop-place l = record {
  wide : length l.costs ≡ 64;
  long : length l.nodes ≡ 64;
  queued : Queued (up_to l.fn.routes l.place) l.nodes l.reached;
  mirrored : MirrorsTo l.fn.routes l.costs l.place;
}
