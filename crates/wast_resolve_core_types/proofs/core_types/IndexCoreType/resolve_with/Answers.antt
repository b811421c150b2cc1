use Rattle.std.proofs.Common.{rules}
use Rattle.std.proofs.lemmas.Result.{err_from_is_err_and}
use Rattle.wast_resolve_core_types.specs.Tree.space
use Rattle.wast_resolve_core_types.proofs.Calling.{calls_on_one, one_refused, needs_one}
use Rattle.wast_resolve_core_types.proofs.core_types.IndexCoreType.resolve_with.Goals as goal

pub resolve_type_name-requires : goal.resolve_type_name-requires
resolve_type_name-requires g c = let needs = needs_one space.Ty c.requires in search rules

pub returns-in_err-resolve_type_name-clause-calls : goal.returns-in_err-resolve_type_name-clause-calls
returns-in_err-resolve_type_name-clause-calls g c =
    let p = err_from_is_err_and c.from_residual.result c.from_residual.ensures.1 in
    rw (p.1, p.2) (one_refused c.in_err-resolve_type_name.ensures.call)

pub returns-clause-calls : goal.returns-clause-calls
returns-clause-calls g c = calls_on_one _ c.in_ok-resolve_type_name.ensures.call
