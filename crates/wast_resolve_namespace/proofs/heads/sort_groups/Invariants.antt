use Rattle.std.proofs.Common.{◌≡◌, ◌+◌, ◌-◌, length, map, IsPermutation}
use Rattle.wast_resolve_namespace.specs.Heads.{pair_of}
use Rattle.wast_resolve_namespace.proofs.heads.sort_groups.Given as goal

abbrev pub invariant-groups : goal.invariant-groups
invariant-groups l = record {
  same : length l.headed ≡ length l.initial.headed;
  permutation : IsPermutation (map pair_of l.fn.headed) (map pair_of l.headed);
}

abbrev pub decreases-groups : goal.decreases-groups
decreases-groups l = l.turns + (length l.initial.headed - l.from)
