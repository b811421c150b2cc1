use Rattle.std.proofs.Common.{◌∙◌, sym, ap, arith}
use Rattle.std.specs.Ordering.{is_lt}
use Rattle.wast_resolve_namespace.proofs.Orders.{more_ranked}
use Rattle.wast_resolve_namespace.proofs.sorting.are_in_order.Goals as goal

pub seek-preserved : goal.seek-preserved
seek-preserved c =
    more_ranked c.args.pairs.now c.seek.t _ _ (omega (arith, c.seek.auto.t)) c.seek-test.true
    (ap is_lt (sym c.compare_pairs.ensures) ∙ sym c.is_lt.ensures ∙ c.if-is_lt.false) c.seek.invariant
