use Rattle.std.proofs.Common.{◌≡◌, drop}
use Rattle.wast_base.specs.FirstUnmet.{first_unmet}
use Rattle.wast_resolve_rules.specs.Demands.{order_demands}
use Rattle.wast_resolve_rules.proofs.Orders.{orders_from}
use Rattle.wast_resolve_spaces.proofs.imports.check_order.Given as goal

abbrev pub invariant-loop-field : goal.invariant-loop-field
invariant-loop-field l = first_unmet (orders_from l.last (drop l.field-index l.fields)) ≡ first_unmet (order_demands l.fields)
