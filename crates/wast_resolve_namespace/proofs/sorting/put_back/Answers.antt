use Rattle.std.proofs.Common.{◌+◌, ◌≡◌, ◌-◌, sym, ◌∙◌, arith}
use Rattle.std.proofs.lemmas.List.Sorted.{IsPermutation-trans}
use Rattle.wast_resolve_namespace.proofs.Insertions.{step_back, arrived, heads_swapped}
use Rattle.wast_resolve_namespace.proofs.sorting.put_back.Goals as goal

pub back-preserved : goal.back-preserved
back-preserved c =
    let at = c.back.at in
    let next : at ≡ (at - 1) + 1 = omega (arith, c.back-test.true) in
    record {
      within = omega (arith, c.back.invariant.within);
      same = c.swap.ensures.len ∙ c.back.invariant.same;
      permutation = IsPermutation-trans _ _ _ c.back.invariant.permutation c.swap.ensures.permutation;
      heads = heads_swapped c.back.pairs c.swap.new.self c.back.heads c.swap-in-back.new.self (c.args.last + 1) (at - 1) at
          (omega (arith, next, c.back.invariant.within))
          (omega (arith, c.back.invariant.within)) c.swap.ensures.by_index c.swap-in-back.ensures.by_index c.back.invariant.heads;
      way = step_back c.back.pairs c.swap.new.self (c.args.last + 1) at (at - 1) next c.swap.ensures.by_index _ _
          (omega (arith, c.back.invariant.within, c.back.invariant.same, c.requires.within)) (sym c.comes_before.ensures
          ∙ c.if-not-comes_before.false) c.back.invariant.way;
    }

pub returns-then-not-comes_before-clause-sorted : goal.returns-then-not-comes_before-clause-sorted
returns-then-not-comes_before-clause-sorted c =
    arrived c.back.pairs (c.args.last + 1) c.back.at _ _ (omega (arith, c.back.invariant.same, c.requires.within)) c.back.invariant.way
    (sym c.comes_before.ensures ∙ c.if-not-comes_before.true)
