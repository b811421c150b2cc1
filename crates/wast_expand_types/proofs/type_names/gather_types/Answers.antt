use Rattle.std.proofs.Common.{arith}
use Rattle.std.proofs.lemmas.Result.{err_from_is_err_and}
use Rattle.wast_expand_types.proofs.TypeItems.{in_types, types_join, stops_in_one}
use Rattle.wast_expand_types.proofs.type_names.gather_types.Goals as goal

pub returns-in_err-gather_type-clause-refusal : goal.returns-in_err-gather_type-clause-refusal
returns-in_err-gather_type-clause-refusal c =
    let p = err_from_is_err_and c.from_residual.result c.from_residual.ensures.1 in
    rw (p.1, p.2) (stops_in_one in_types types_join c.args.gathering.now c.loop-ty.gathering c.args.types.now c.loop-ty.ty-index c.ty-item.result
    (omega arith) c.ty-item.is c.loop-ty.invariant c.in_err-gather_type.field-0.0 c.in_err-gather_type.ensures.refusal)
