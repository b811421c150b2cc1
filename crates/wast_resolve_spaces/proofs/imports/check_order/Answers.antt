use Rattle.std.proofs.Common.{sym, ap}
use Rattle.wast_base.specs.FirstUnmet.{first_unmet}
use Rattle.wast_resolve_rules.proofs.Orders.{orders_are}
use Rattle.wast_resolve_spaces.proofs.imports.check_order.Goals as goal

pub loop-field-init : goal.loop-field-init
loop-field-init c = ap first_unmet (sym (orders_are c.args.fields.now))
