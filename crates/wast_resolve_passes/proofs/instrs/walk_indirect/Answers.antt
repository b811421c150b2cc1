use Rattle.std.specs.Prelude.{⊤, []}
use Rattle.std.proofs.lemmas.Result.{err_from_is_err_and}
use Rattle.wast_base.specs.Faults.{diagnostic_of}
use Rattle.wast_tree_nodes.specs.Sites.{OfCall, at_index, in_use}
use Rattle.wast_resolve_passes.specs.Tree.space
use Rattle.wast_resolve_rules.specs.Demands.{HasMany, site_demand}
use Rattle.wast_resolve_names.specs.Resolvers.{scope_of}
use Rattle.wast_resolve_names.proofs.Parts.{both_met, fails_first, fails_behind}
use Rattle.wast_resolve_passes.proofs.instrs.walk_indirect.Goals as goal

pub returns-in_err-walk_outside_index : goal.returns-in_err-walk_outside_index
returns-in_err-walk_outside_index c =
    let x = c.args.call.now in
    let p = err_from_is_err_and c.from_residual.result c.from_residual.ensures.1 in
    rw (p.1, p.2) (fails_first ⊤ (HasMany []) (scope_of c.args.names.now) (at_index space.Table x.table) (in_use OfCall x.ty)
    (diagnostic_of c.in_err-walk_outside_index.field-0.0) c.in_err-walk_outside_index.ensures)

pub returns-in_err-walk_body_type : goal.returns-in_err-walk_body_type
returns-in_err-walk_body_type c =
    let x = c.args.call.now in
    let p = err_from_is_err_and c.from_residual-in_err-walk_body_type.result c.from_residual-in_err-walk_body_type.ensures.1 in
    rw (p.1, p.2) (fails_behind ⊤ (HasMany []) (scope_of c.args.names.now) (at_index space.Table x.table) (in_use OfCall x.ty)
    (diagnostic_of c.in_err-walk_body_type.field-0.0)
    c.in_ok-walk_outside_index.ensures.0 c.in_err-walk_body_type.ensures.call)

pub returns : goal.returns
returns c =
    let x = c.args.call.now in
    let table = c.in_ok-walk_outside_index.ensures in
    let called = c.in_ok-walk_body_type.ensures.call in (
      both_met (site_demand (scope_of c.args.names.now)) (at_index space.Table x.table) (in_use OfCall x.ty) table.0 called.0,
      λ i. record
          { table = table.1 i; ty = called.1 i },
    )
