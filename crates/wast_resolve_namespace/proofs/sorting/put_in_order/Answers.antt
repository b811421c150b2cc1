use Rattle.std.proofs.Common.{rules}
use Rattle.std.specs.Ordering.{is_lt}
use Rattle.std.proofs.lemmas.List.Sorted.{answers_always, ranks_by}
use Rattle.wast_base.specs.Order.{key_cmp}
use Rattle.wast_resolve_namespace.specs.Places.{entry_of}
use Rattle.wast_resolve_namespace.specs.Filling.{pair_cmp}
use Rattle.wast_base.proofs.Keys.{keys_total, exact_keys}
use Rattle.wast_resolve_namespace.proofs.Ties.{pairs_total}
use Rattle.wast_resolve_namespace.proofs.sorting.put_in_order.Goals as goal

pub returns-clause-sorted : goal.returns-clause-sorted
returns-clause-sorted c =
    c.sort_unstable_by.ensures.sorted (λ a b. is_lt (pair_cmp key_cmp (entry_of a) (entry_of b))) (ranks_by (pairs_total keys_total exact_keys) entry_of)
    (answers_always _ _ _ (λ f a r g called. search rules))
