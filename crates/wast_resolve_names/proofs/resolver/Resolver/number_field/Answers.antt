use Rattle.std.proofs.Common.{Ok, Err}
use Rattle.std.proofs.lemmas.Result.{err_from_is_err_and}
use Rattle.wast_resolve_names.specs.Resolvers.{scope_of}
use Rattle.wast_resolve_names.proofs.Accesses.{field_walked}
use Rattle.wast_resolve_names.proofs.resolver.Resolver.number_field.Goals as goal

pub returns-in_err-number_index : goal.returns-in_err-number_index
returns-in_err-number_index c =
    let p = err_from_is_err_and c.from_residual.result c.from_residual.ensures.1 in
    rw (p.1, p.2) (field_walked (scope_of c.args.self.now).types c.args.owner c.args.field.now c.in-Some.names.now _
    (Err _) c.in-Some.ensures c.in_err-number_index.ensures.answer c.number_index.ensures.index)

pub returns : goal.returns
returns c =
    field_walked (scope_of c.args.self.now).types c.args.owner c.args.field.now c.in-Some.names.now _
    (Ok _) c.in-Some.ensures c.in_ok-number_index.ensures.answer c.number_index.ensures.index
