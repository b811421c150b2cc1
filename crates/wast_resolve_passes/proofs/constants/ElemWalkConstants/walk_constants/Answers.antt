use Rattle.std.specs.Prelude.{refl}
use Rattle.std.proofs.lemmas.Result.{err_from_is_err_and}
use Rattle.wast_base.specs.Faults.{diagnostic_of}
use Rattle.wast_tree_nodes.specs.Sites.{in_payload}
use Rattle.wast_resolve_names.specs.Resolvers.{scope_of}
use Rattle.wast_resolve_passes.proofs.TwoSteps.{first_stops, second_stops, both_met, segment_parts}
use Rattle.wast_resolve_passes.proofs.constants.ElemWalkConstants.walk_constants.Goals as goal

pub returns-in_err-walk_constants : goal.returns-in_err-walk_constants
returns-in_err-walk_constants c =
    let p = err_from_is_err_and c.from_residual.result c.from_residual.ensures.1 in
    rw (p.1, p.2) (first_stops (segment_parts (scope_of c.args.names.now) c.args.self.now)
    (diagnostic_of c.in_err-walk_constants.field-0.0) c.in_err-walk_constants.ensures)

pub returns-in_err-walk_constants-2 : goal.returns-in_err-walk_constants-2
returns-in_err-walk_constants-2 c =
    let x = c.args.self.now in
    let p = err_from_is_err_and c.from_residual-in_err-walk_constants-2.result c.from_residual-in_err-walk_constants-2.ensures.1 in
    rw (p.1, p.2) (second_stops (segment_parts (scope_of c.args.names.now) x) (diagnostic_of c.in_err-walk_constants-2.field-0.0)
    (in_payload x.payload) refl c.in_ok-walk_constants.ensures.0 c.in_err-walk_constants-2.ensures)

pub returns : goal.returns
returns c =
    let x = c.args.self.now in (
      both_met (segment_parts (scope_of c.args.names.now) x) (in_payload x.payload) refl c.in_ok-walk_constants.ensures.0 c.in_ok-walk_constants-2.ensures.0,
      λ i. record x { kind = c.in_ok-walk_constants.ensures.1 i; payload = c.in_ok-walk_constants-2.ensures.1 i },
    )
