use Rattle.std.proofs.Common.{false, ap, sym, subst, ◌∙◌, refl}
use Rattle.std.specs.List.{flat_map}
use Rattle.std.proofs.lemmas.Result.{err_from_is_err_and}
use Rattle.wast_base.specs.Faults.{diagnostic_of}
use Rattle.wast_tree_nodes.specs.Sites.{Covered, in_handle}
use Rattle.wast_resolve_passes.specs.Tree.form
use Rattle.wast_resolve_rules.specs.Demands.{first_unmet, Answers}
use Rattle.wast_resolve_names.specs.Resolvers.{scope_of}
use Rattle.wast_resolve_names.proofs.Parts.{all_but_last}
use Rattle.wast_resolve_passes.proofs.instrs.walk_handlers.Goals as goal

pub returns-in_err-walk_handles : goal.returns-in_err-walk_handles
returns-in_err-walk_handles c =
    let s = scope_of c.args.names.now in
    let t = diagnostic_of c.in_err-walk_handles.field-0.0 in
    let p = err_from_is_err_and c.from_residual.result c.from_residual.ensures.1 in
    rw (p.1, p.2) (subst (λ ds. Answers ⊥ ⊥ t (first_unmet ds))
    (sym (all_but_last s (flat_map (in_handle c.args.labels.now) c.args.table.now.handlers) (Covered form.StackSwitching false) refl))
    c.in_err-walk_handles.ensures)

pub returns : goal.returns
returns c =
    let s = scope_of c.args.names.now in (
      ap first_unmet (all_but_last s (flat_map (in_handle c.args.labels.now) c.args.table.now.handlers) (Covered form.StackSwitching false) refl)
          ∙ c.in_ok-walk_handles.ensures.0,
      λ i. record { handlers = c.in_ok-walk_handles.ensures.1 i },
    )
