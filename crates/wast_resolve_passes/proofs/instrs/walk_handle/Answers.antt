use Rattle.std.proofs.Common.{List, ◌≡◌, ◌∙◌, ap, sym, subst, None}
use Rattle.std.proofs.lemmas.Result.{err_from_is_err_and}
use Rattle.wast_base.specs.Faults.{diagnostic_of}
use Rattle.wast_tree_nodes.specs.Sites.{Site}
use Rattle.wast_resolve_rules.specs.Demands.{first_unmet, site_demand, site_demands, Answers}
use Rattle.wast_resolve_rules.specs.Resolved.{numbering_change}
use Rattle.wast_resolve_names.specs.Resolvers.{scope_of}
use Rattle.wast_resolve_passes.specs.Tree.{Handle}
use Rattle.wast_resolve_passes.specs.TwoSteps.{in_handler_tag, in_handler_label, with_handler_label}
use Rattle.wast_resolve_names.proofs.Parts.{both_met, fails_first, fails_behind}
use Rattle.wast_resolve_passes.proofs.TwoSteps.{handle_sites, handle_stays, handle_becomes}
use Rattle.wast_resolve_passes.proofs.instrs.walk_handle.Goals as goal

pub returns-in_err-walk_handler_tag : goal.returns-in_err-walk_handler_tag
returns-in_err-walk_handler_tag c =
    let s = scope_of c.args.names.now in
    let blocks = c.args.labels.now in
    let x = c.args.handle.now in
    let t = diagnostic_of c.in_err-walk_handler_tag.field-0.0 in
    let p = err_from_is_err_and c.from_residual.result c.from_residual.ensures.1 in
    rw (p.1, p.2) (subst (λ (ss : List Site). Answers ⊥ ⊥ t (first_unmet (site_demands s ss))) (sym (handle_sites blocks x))
    (fails_first ⊥ ⊥ s (in_handler_tag x) (in_handler_label blocks x) t c.in_err-walk_handler_tag.ensures))

pub returns-in_err-walk_handler_label : goal.returns-in_err-walk_handler_label
returns-in_err-walk_handler_label c =
    let s = scope_of c.args.names.now in
    let blocks = c.args.labels.now in
    let x = c.args.handle.now in
    let t = diagnostic_of c.in_err-walk_handler_label.field-0.0 in
    let tagged = c.in_ok-walk_handler_tag.ensures in
    let same = ap (in_handler_label blocks) tagged.1 ∙ handle_stays (numbering_change s) blocks x in
    let p = err_from_is_err_and c.from_residual-in_err-walk_handler_label.result c.from_residual-in_err-walk_handler_label.ensures.1 in
    rw (p.1, p.2) (subst (λ (ss : List Site). Answers ⊥ ⊥ t (first_unmet (site_demands s ss))) (sym (handle_sites blocks x))
    (fails_behind ⊥ ⊥ s (in_handler_tag x) (in_handler_label blocks x) t tagged.0
    (subst (λ (ss : List Site). Answers ⊥ ⊥ t (first_unmet (site_demands s ss))) same (c.in_err-walk_handler_label.ensures c.args.names.now))))

pub returns : goal.returns
returns c =
    let s = scope_of c.args.names.now in
    let blocks = c.args.labels.now in
    let x = c.args.handle.now in
    let tagged = c.in_ok-walk_handler_tag.ensures in
    let named = c.in_ok-walk_handler_label.ensures c.args.names.now in
    let same = ap (in_handler_label blocks) tagged.1 ∙ handle_stays (numbering_change s) blocks x in (
      subst (λ (ss : List Site). first_unmet (site_demands s ss) ≡ None) (sym (handle_sites blocks x))
          (both_met (site_demand s) (in_handler_tag x)
          (in_handler_label blocks x) tagged.0 (subst (λ (ss : List Site). first_unmet (site_demands s ss) ≡ None) same named.0)),
      named.1 ∙ (ap (λ (h : Handle). with_handler_label (numbering_change s) blocks h) tagged.1 ∙ handle_becomes (numbering_change s) blocks x),
    )
