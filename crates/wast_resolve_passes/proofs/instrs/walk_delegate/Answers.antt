use Rattle.std.proofs.Common.{◌≡◌, subst, None}
use Rattle.std.proofs.lemmas.Result.{err_from_is_err_and}
use Rattle.wast_base.specs.Faults.{diagnostic_of}
use Rattle.wast_base.specs.Blocks.{Blocks}
use Rattle.wast_resolve_labels.specs.OpenBlocks.{label_depth}
use Rattle.wast_tree_nodes.specs.Sites.{at_label}
use Rattle.wast_resolve_rules.specs.Demands.{first_unmet, site_demands, Answers}
use Rattle.wast_resolve_rules.specs.Resolved.{resolved_index}
use Rattle.wast_resolve_names.specs.Resolvers.{scope_of}
use Rattle.wast_resolve_rules.proofs.Unmet.{answers_more}
use Rattle.wast_resolve_passes.proofs.instrs.walk_delegate.Goals as goal

pub returns-in_err-walk_label-clause-walks : goal.returns-in_err-walk_label-clause-walks
returns-in_err-walk_label-clause-walks c names =
    let t = diagnostic_of c.in_err-walk_label.field-0.0 in
    let p = err_from_is_err_and c.from_residual.result c.from_residual.ensures.1 in
    rw (p.1, p.2) (answers_more t _ _ (λ l. absurd l) (λ m. absurd m) (λ f h. h)
    (subst (λ (s : Blocks). Answers ⊥ ⊥ t (first_unmet (site_demands (scope_of names) (at_label s c.args.label.now)))) c.close.ensures
    (c.in_err-walk_label.ensures names)))

pub returns-clause-walks : goal.returns-clause-walks
returns-clause-walks c names =
    subst (λ (s : Blocks). (first_unmet (site_demands (scope_of names) (at_label s c.args.label.now)) ≡ None) ×
    (c.walk_label.new.label ≡ resolved_index (λ name. label_depth name s) c.args.label.now))
    c.close.ensures (c.in_ok-walk_label.ensures names)

pub returns-clause-blocks : goal.returns-clause-blocks
returns-clause-blocks c l = c.close.ensures
