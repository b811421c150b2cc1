use Rattle.std.specs.Prelude.{⊤, ◌++◌}
use Rattle.std.proofs.lemmas.Result.{err_from_is_err_and}
use Rattle.wast_base.specs.Faults.{diagnostic_of}
use Rattle.wast_tree_nodes.specs.Sites.{at_index, in_handlers}
use Rattle.wast_resolve_passes.specs.Tree.space
use Rattle.wast_resolve_rules.specs.Demands.{HasMany, open_counts, site_demand}
use Rattle.wast_resolve_names.specs.Resolvers.{scope_of}
use Rattle.wast_resolve_names.proofs.Parts.{both_met, fails_first, fails_behind}
use Rattle.wast_resolve_passes.proofs.instrs.walk_resume_throw.Goals as goal

pub returns-in_err-walk_outside_index : goal.returns-in_err-walk_outside_index
returns-in_err-walk_outside_index c =
    let x = c.args.resume.now in
    let rest = at_index space.Tag x.tag_index ++ in_handlers c.args.labels.now x.table in
    let p = err_from_is_err_and c.from_residual.result c.from_residual.ensures.1 in
    rw (p.1, p.2) (fails_first ⊤ (HasMany (open_counts (at_index space.Ty x.type_index ++ rest))) (scope_of c.args.names.now)
    (at_index space.Ty x.type_index) rest (diagnostic_of c.in_err-walk_outside_index.field-0.0)
    c.in_err-walk_outside_index.ensures)

pub returns-in_err-walk_outside_index-2 : goal.returns-in_err-walk_outside_index-2
returns-in_err-walk_outside_index-2 c =
    let x = c.args.resume.now in
    let s = scope_of c.args.names.now in
    let handled = in_handlers c.args.labels.now x.table in
    let rest = at_index space.Tag x.tag_index ++ handled in
    let t = diagnostic_of c.in_err-walk_outside_index-2.field-0.0 in
    let p = err_from_is_err_and c.from_residual-in_err-walk_outside_index-2.result c.from_residual-in_err-walk_outside_index-2.ensures.1 in
    rw (p.1, p.2) (fails_behind ⊤ (HasMany (open_counts (at_index space.Ty x.type_index ++ rest))) s (at_index space.Ty x.type_index) rest t
    c.in_ok-walk_outside_index.ensures.0 (fails_first ⊥ ⊥ s (at_index space.Tag x.tag_index) handled t c.in_err-walk_outside_index-2.ensures))

pub returns-in_err-walk_handlers : goal.returns-in_err-walk_handlers
returns-in_err-walk_handlers c =
    let x = c.args.resume.now in
    let s = scope_of c.args.names.now in
    let handled = in_handlers c.args.labels.now x.table in
    let rest = at_index space.Tag x.tag_index ++ handled in
    let t = diagnostic_of c.in_err-walk_handlers.field-0.0 in
    let p = err_from_is_err_and c.from_residual-in_err-walk_handlers.result c.from_residual-in_err-walk_handlers.ensures.1 in
    rw (p.1, p.2) (fails_behind ⊤ (HasMany (open_counts (at_index space.Ty x.type_index ++ rest))) s (at_index space.Ty x.type_index) rest t
    c.in_ok-walk_outside_index.ensures.0 (fails_behind ⊥ ⊥ s
    (at_index space.Tag x.tag_index) handled t c.in_ok-walk_outside_index-2.ensures.0 c.in_err-walk_handlers.ensures))

pub returns : goal.returns
returns c =
    let x = c.args.resume.now in
    let s = scope_of c.args.names.now in
    let typed = c.in_ok-walk_outside_index.ensures in
    let tagged = c.in_ok-walk_outside_index-2.ensures in
    let handled = c.in_ok-walk_handlers.ensures in
    let sites = in_handlers c.args.labels.now x.table in (
      both_met (site_demand s) (at_index space.Ty x.type_index) (at_index space.Tag x.tag_index ++ sites) typed.0 (both_met (site_demand s)
          (at_index space.Tag x.tag_index) sites tagged.0 handled.0),
      λ i. record { type_index = typed.1 i; tag_index = tagged.1 i; table = handled.1 i },
    )
