use Rattle.std.proofs.Common.{◌≡◌, length}
use Rattle.std.specs.List.Sorted.{IsPermutation}
use Rattle.wast_resolve_namespace.specs.Filling.{AreRankedTo}
use Rattle.wast_resolve_namespace.specs.Heads.{AreHeads}
use Rattle.wast_resolve_namespace.proofs.sorting.put_few_in_order.Given as goal

abbrev pub invariant-each : goal.invariant-each
invariant-each l = record {
  same : length l.pairs ≡ length l.initial.pairs;
  permutation : IsPermutation l.initial.pairs l.pairs;
  room : length l.heads ≡ 20;
  heads : AreHeads l.pairs l.heads l.last;
  sorted : AreRankedTo l.pairs l.last;
}
