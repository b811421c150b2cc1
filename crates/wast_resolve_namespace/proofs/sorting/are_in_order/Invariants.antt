use Rattle.wast_resolve_namespace.proofs.Orders.{IsRankedTo}
use Rattle.wast_resolve_namespace.proofs.sorting.are_in_order.Given as goal

abbrev pub invariant-seek : goal.invariant-seek
invariant-seek l = IsRankedTo l.pairs l.t
