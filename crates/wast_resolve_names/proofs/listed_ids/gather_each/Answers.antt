use Rattle.std.proofs.Common.{arith, ap}
use Rattle.std.proofs.lemmas.Result.{err_from_is_err_and}
use Rattle.wast_base.specs.Faults.{diagnostic_of}
use Rattle.wast_base.specs.Spaces.{name_if}
use Rattle.wast_resolve_names.proofs.Stopping.{stops_at}
use Rattle.wast_resolve_names.proofs.listed_ids.gather_each.Goals as goal

pub returns-in_err-gather_one : goal.returns-in_err-gather_one
returns-in_err-gather_one g c =
    let p = err_from_is_err_and c.from_residual.result c.from_residual.ensures.1 in
    rw (p.1, p.2) (stops_at (λ x. name_if (g.T.HasId.mark x))
    (diagnostic_of c.in_err-gather_one.field-0.0) c.loop-item.gathering _ c.args.items.now c.loop-item.item-index c.item-item.result _
    (omega arith) c.item-item.is
    (ap name_if c.id.ensures) c.loop-item.invariant c.in_err-gather_one.ensures)
