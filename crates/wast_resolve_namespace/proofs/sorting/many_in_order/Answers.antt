use Rattle.std.proofs.lemmas.List.Sorted.{IsPermutation-trans}
use Rattle.wast_resolve_namespace.proofs.sorting.many_in_order.Goals as goal

pub returns-clause-permutation : goal.returns-clause-permutation
returns-clause-permutation c = IsPermutation-trans _ _ _ c.in_ok-sorted.ensures c.put_in_order.ensures.permutation
