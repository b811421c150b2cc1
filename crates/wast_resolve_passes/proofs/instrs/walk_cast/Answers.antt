use Rattle.std.specs.Prelude.{◌++◌}
use Rattle.std.proofs.Common.{List, ◌≡◌, sym, subst, None}
use Rattle.std.proofs.lemmas.Result.{err_from_is_err_and}
use Rattle.wast_base.specs.Faults.{diagnostic_of}
use Rattle.wast_tree_nodes.specs.Sites.{Site, check_sites, at_label, in_ref}
use Rattle.wast_resolve_rules.specs.Demands.{first_unmet, site_demand, site_demands, Answers}
use Rattle.wast_resolve_names.specs.Resolvers.{scope_of}
use Rattle.wast_resolve_names.proofs.Parts.{both_met, fails_first, fails_behind, cast_sites}
use Rattle.wast_resolve_passes.proofs.instrs.walk_cast.Goals as goal

pub returns-in_err-walk_label : goal.returns-in_err-walk_label
returns-in_err-walk_label c =
    let s = scope_of c.args.names.now in
    let blocks = c.args.labels.now in
    let to = c.args.to.now in
    let from = c.args.from.now in
    let t = diagnostic_of c.in_err-walk_label.field-0.0 in
    let p = err_from_is_err_and c.from_residual.result c.from_residual.ensures.1 in
    rw (p.1, p.2) (subst (λ (ss : List Site). Answers ⊥ ⊥ t (first_unmet (site_demands s ss))) (sym (cast_sites blocks c.args.label.now to from))
    (fails_first ⊥ ⊥ s (at_label blocks c.args.label.now) (check_sites (in_ref to) ++ check_sites (in_ref from)) t
    (c.in_err-walk_label.ensures c.args.names.now)))

pub returns-in_err-walk_outside : goal.returns-in_err-walk_outside
returns-in_err-walk_outside c =
    let s = scope_of c.args.names.now in
    let blocks = c.args.labels.now in
    let to = c.args.to.now in
    let from = c.args.from.now in
    let t = diagnostic_of c.in_err-walk_outside.field-0.0 in
    let p = err_from_is_err_and c.from_residual-in_err-walk_outside.result c.from_residual-in_err-walk_outside.ensures.1 in
    rw (p.1, p.2) (subst (λ (ss : List Site). Answers ⊥ ⊥ t (first_unmet (site_demands s ss))) (sym (cast_sites blocks c.args.label.now to from))
    (fails_behind ⊥ ⊥ s (at_label blocks c.args.label.now) (check_sites (in_ref to) ++ check_sites (in_ref from)) t
    (c.in_ok-walk_label.ensures c.args.names.now).0
    (fails_first ⊥ ⊥ s (check_sites (in_ref to)) (check_sites (in_ref from)) t c.in_err-walk_outside.ensures)))

pub returns-in_err-walk_outside-2 : goal.returns-in_err-walk_outside-2
returns-in_err-walk_outside-2 c =
    let s = scope_of c.args.names.now in
    let blocks = c.args.labels.now in
    let to = c.args.to.now in
    let from = c.args.from.now in
    let t = diagnostic_of c.in_err-walk_outside-2.field-0.0 in
    let p = err_from_is_err_and c.from_residual-in_err-walk_outside-2.result c.from_residual-in_err-walk_outside-2.ensures.1 in
    rw (p.1, p.2) (subst (λ (ss : List Site). Answers ⊥ ⊥ t (first_unmet (site_demands s ss))) (sym (cast_sites blocks c.args.label.now to from))
    (fails_behind ⊥ ⊥ s (at_label blocks c.args.label.now) (check_sites (in_ref to) ++ check_sites (in_ref from)) t
    (c.in_ok-walk_label.ensures c.args.names.now).0
    (fails_behind ⊥ ⊥ s (check_sites (in_ref to)) (check_sites (in_ref from)) t c.in_ok-walk_outside.ensures.0 c.in_err-walk_outside-2.ensures)))

pub returns : goal.returns
returns c =
    let s = scope_of c.args.names.now in
    let blocks = c.args.labels.now in
    let to = c.args.to.now in
    let from = c.args.from.now in
    let label = c.in_ok-walk_label.ensures c.args.names.now in
    let upper = c.in_ok-walk_outside.ensures in
    let lower = c.in_ok-walk_outside-2.ensures in (
      subst (λ (ss : List Site). first_unmet (site_demands s ss) ≡ None) (sym (cast_sites blocks c.args.label.now to from))
          (both_met (site_demand s) (at_label blocks c.args.label.now) (check_sites (in_ref to) ++ check_sites (in_ref from)) label.0 (both_met
          (site_demand s) (check_sites (in_ref to)) (check_sites (in_ref from)) upper.0 lower.0)),
      λ i. (label.1 i, (upper.1 i, lower.1 i)),
    )
