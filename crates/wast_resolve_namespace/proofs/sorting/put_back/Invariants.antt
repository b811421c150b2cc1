use Rattle.std.proofs.Common.{◌≡◌, ◌+◌, ◌≤◌, length}
use Rattle.std.specs.List.Sorted.{IsPermutation}
use Rattle.wast_resolve_namespace.specs.Heads.{AreHeads}
use Rattle.wast_resolve_namespace.proofs.Insertions.{IsOnItsWay}
use Rattle.wast_resolve_namespace.proofs.sorting.put_back.Given as goal

abbrev pub invariant-back : goal.invariant-back
invariant-back l = record {
  within : l.at ≤ l.last;
  same : length l.pairs ≡ length l.initial.pairs;
  permutation : IsPermutation l.initial.pairs l.pairs;
  heads : AreHeads l.pairs l.heads (l.last + 1);
  way : IsOnItsWay l.pairs (l.last + 1) l.at;
}

abbrev pub decreases-back : goal.decreases-back
decreases-back l = l.at
