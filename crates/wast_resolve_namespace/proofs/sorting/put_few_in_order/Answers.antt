use Rattle.std.proofs.Common.{◌∙◌, subst, arith, rules}
use Rattle.std.proofs.lemmas.List.Sorted.{IsPermutation-trans}
use Rattle.wast_resolve_namespace.specs.Heads.{IsHead}
use Rattle.wast_resolve_namespace.proofs.Insertions.{heads_more}
use Rattle.wast_resolve_namespace.proofs.sorting.put_few_in_order.Goals as goal

pub put_back-requires-clause-heads : goal.put_back-requires-clause-heads
put_back-requires-clause-heads c =
    heads_more c.each.pairs c.each.heads c.each.last c.first_eight.result _ (omega arith) (omega arith) c.each.invariant.heads
    (subst (λ t. IsHead t c.first_eight.result) (c.as_bytes.ensures.value ∙ c.name.ensures) c.first_eight.ensures)

pub each-preserved : goal.each-preserved
each-preserved c = record {
  same = c.put_back.auto.pairs ∙ c.each.invariant.same;
  permutation = IsPermutation-trans _ _ _ c.each.invariant.permutation c.put_back.ensures.permutation;
  room = search rules;
  heads = c.put_back.ensures.heads;
  sorted = c.put_back.ensures.sorted;
}
