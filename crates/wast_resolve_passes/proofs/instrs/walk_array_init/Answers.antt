use Rattle.std.specs.Prelude.{⊤, []}
use Rattle.std.proofs.lemmas.Result.{err_from_is_err_and}
use Rattle.wast_base.specs.Faults.{diagnostic_of}
use Rattle.wast_tree_nodes.specs.Sites.{at_index}
use Rattle.wast_resolve_passes.specs.Tree.space
use Rattle.wast_resolve_rules.specs.Demands.{HasMany, site_demand}
use Rattle.wast_resolve_names.specs.Resolvers.{scope_of}
use Rattle.wast_resolve_names.proofs.Parts.{both_met, fails_first, fails_behind}
use Rattle.wast_resolve_passes.proofs.instrs.walk_array_init.Goals as goal

pub returns-in_err-walk_outside_index : goal.returns-in_err-walk_outside_index
returns-in_err-walk_outside_index c =
    let x = c.args.init.now in
    let p = err_from_is_err_and c.from_residual.result c.from_residual.ensures.1 in
    rw (p.1, p.2) (fails_first ⊤ (HasMany []) (scope_of c.args.names.now) (at_index space.Ty x.array) (at_index c.args.segments x.segment)
    (diagnostic_of c.in_err-walk_outside_index.field-0.0) c.in_err-walk_outside_index.ensures)

pub returns-in_err-walk_outside_index-2 : goal.returns-in_err-walk_outside_index-2
returns-in_err-walk_outside_index-2 c =
    let x = c.args.init.now in
    let p = err_from_is_err_and c.from_residual-in_err-walk_outside_index-2.result c.from_residual-in_err-walk_outside_index-2.ensures.1 in
    rw (p.1, p.2) (fails_behind ⊤ (HasMany []) (scope_of c.args.names.now) (at_index space.Ty x.array) (at_index c.args.segments x.segment)
    (diagnostic_of c.in_err-walk_outside_index-2.field-0.0)
    c.in_ok-walk_outside_index.ensures.0 c.in_err-walk_outside_index-2.ensures)

pub returns : goal.returns
returns c =
    let x = c.args.init.now in
    let array = c.in_ok-walk_outside_index.ensures in
    let segment = c.in_ok-walk_outside_index-2.ensures in (
      both_met (site_demand (scope_of c.args.names.now)) (at_index space.Ty x.array)
          (at_index c.args.segments x.segment) array.0 segment.0,
      λ i. record { array = array.1 i; segment = segment.1 i },
    )
