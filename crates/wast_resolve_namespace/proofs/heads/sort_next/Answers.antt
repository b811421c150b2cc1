use Rattle.std.proofs.Common.{◌-◌, arith}
use Rattle.std.proofs.lemmas.List.Sorted.{IsPermutation-refl}
use Rattle.wast_resolve_namespace.specs.Heads.{pair_of}
use Rattle.wast_resolve_namespace.proofs.Groups.{part_moved}
use Rattle.wast_resolve_namespace.proofs.heads.sort_next.Goals as goal

pub returns-then-size-eq1-clause-permutation : goal.returns-then-size-eq1-clause-permutation
returns-then-size-eq1-clause-permutation c = IsPermutation-refl _

pub overflow_sub-left : goal.overflow_sub-left
overflow_sub-left c = let few = c.can_split.ensures c.if-can_split.true in omega arith

pub returns-then-can_split-clause-permutation : goal.returns-then-can_split-clause-permutation
returns-then-can_split-clause-permutation c =
    part_moved pair_of c.args.from (c.group_end-to.result - c.args.from) c.args.headed.now c.split_group.new.group c.split_group.ensures

pub returns-then-can_split-clause-progress : goal.returns-then-can_split-clause-progress
returns-then-can_split-clause-progress c =
    let few = c.can_split.ensures c.if-can_split.true in
    omega (arith, c.group_end-to.ensures.after)

pub returns-clause-permutation : goal.returns-clause-permutation
returns-clause-permutation c =
    part_moved pair_of c.args.from (c.group_end-to.result - c.args.from) c.args.headed.now c.sort_by_name.new.group c.sort_by_name.ensures
