use Rattle.std.specs.Prelude.{refl}
use Rattle.std.proofs.lemmas.Result.{err_from_is_err_and}
use Rattle.wast_base.specs.Faults.{diagnostic_of}
use Rattle.wast_tree_nodes.specs.Sites.{in_global_kind}
use Rattle.wast_resolve_names.specs.Resolvers.{scope_of}
use Rattle.wast_resolve_passes.proofs.TwoSteps.{first_fails, second_stops, both_met, global_parts}
use Rattle.wast_resolve_passes.proofs.constants.GlobalWalkConstants.walk_constants.Goals as goal

pub returns-in_err-walk_outside : goal.returns-in_err-walk_outside
returns-in_err-walk_outside c =
    let p = err_from_is_err_and c.from_residual.result c.from_residual.ensures.1 in
    rw (p.1, p.2) (first_fails (global_parts (scope_of c.args.names.now) c.args.self.now)
    (diagnostic_of c.in_err-walk_outside.field-0.0) c.in_err-walk_outside.ensures)

pub returns-in_err-walk_constants : goal.returns-in_err-walk_constants
returns-in_err-walk_constants c =
    let x = c.args.self.now in
    let p = err_from_is_err_and c.from_residual-in_err-walk_constants.result c.from_residual-in_err-walk_constants.ensures.1 in
    rw (p.1, p.2) (second_stops (global_parts (scope_of c.args.names.now) x) (diagnostic_of c.in_err-walk_constants.field-0.0)
    (in_global_kind x.kind) refl c.in_ok-walk_outside.ensures.0 c.in_err-walk_constants.ensures)

pub returns : goal.returns
returns c =
    let x = c.args.self.now in (
      both_met (global_parts (scope_of c.args.names.now) x) (in_global_kind x.kind) refl c.in_ok-walk_outside.ensures.0 c.in_ok-walk_constants.ensures.0,
      λ i. record x { ty = c.in_ok-walk_outside.ensures.1 i; kind = c.in_ok-walk_constants.ensures.1 i },
    )
