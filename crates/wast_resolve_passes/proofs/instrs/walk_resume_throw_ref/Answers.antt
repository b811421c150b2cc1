use Rattle.std.specs.Prelude.{⊤, ◌++◌}
use Rattle.std.proofs.lemmas.Result.{err_from_is_err_and}
use Rattle.wast_base.specs.Faults.{diagnostic_of}
use Rattle.wast_tree_nodes.specs.Sites.{at_index, in_handlers}
use Rattle.wast_resolve_passes.specs.Tree.space
use Rattle.wast_resolve_rules.specs.Demands.{HasMany, open_counts, site_demand}
use Rattle.wast_resolve_names.specs.Resolvers.{scope_of}
use Rattle.wast_resolve_names.proofs.Parts.{both_met, fails_first, fails_behind}
use Rattle.wast_resolve_passes.proofs.instrs.walk_resume_throw_ref.Goals as goal

pub returns-in_err-walk_outside_index : goal.returns-in_err-walk_outside_index
returns-in_err-walk_outside_index c =
    let x = c.args.resume.now in
    let handled = in_handlers c.args.labels.now x.table in
    let p = err_from_is_err_and c.from_residual.result c.from_residual.ensures.1 in
    rw (p.1, p.2) (fails_first ⊤ (HasMany (open_counts (at_index space.Ty x.type_index ++ handled))) (scope_of c.args.names.now)
    (at_index space.Ty x.type_index) handled (diagnostic_of c.in_err-walk_outside_index.field-0.0)
    c.in_err-walk_outside_index.ensures)

pub returns-in_err-walk_handlers : goal.returns-in_err-walk_handlers
returns-in_err-walk_handlers c =
    let x = c.args.resume.now in
    let handled = in_handlers c.args.labels.now x.table in
    let p = err_from_is_err_and c.from_residual-in_err-walk_handlers.result c.from_residual-in_err-walk_handlers.ensures.1 in
    rw (p.1, p.2) (fails_behind ⊤ (HasMany (open_counts (at_index space.Ty x.type_index ++ handled))) (scope_of c.args.names.now)
    (at_index space.Ty x.type_index) handled (diagnostic_of c.in_err-walk_handlers.field-0.0)
    c.in_ok-walk_outside_index.ensures.0 c.in_err-walk_handlers.ensures)

pub returns : goal.returns
returns c =
    let x = c.args.resume.now in
    let typed = c.in_ok-walk_outside_index.ensures in
    let handled = c.in_ok-walk_handlers.ensures in (
      both_met (site_demand (scope_of c.args.names.now)) (at_index space.Ty x.type_index)
          (in_handlers c.args.labels.now x.table) typed.0 handled.0,
      λ i. record { type_index = typed.1 i; table = handled.1 i },
    )
