use Rattle.std.proofs.Common.{◌∙◌, ap, sym, subst, append-nil}
use Rattle.std.proofs.lemmas.Result.{err_from_is_err_and}
use Rattle.wast_base.specs.Faults.{diagnostic_of}
use Rattle.wast_tree_nodes.specs.Sites.{in_type_use}
use Rattle.wast_resolve_passes.specs.Tree.{FunctionType, TypeUse}
use Rattle.wast_resolve_rules.specs.Demands.{first_unmet, Answers, ask_demands, match_if, use_demand}
use Rattle.wast_resolve_names.specs.Resolvers.{scope_of}
use Rattle.wast_resolve_rules.proofs.Unmet.{answers_first, answers_after, first_unmet-append}
use Rattle.wast_resolve_rules.proofs.Matching.{matched_still}
use Rattle.wast_resolve_passes.proofs.walks.walk_type_use.Goals as goal

pub returns-in_err-walk : goal.returns-in_err-walk
returns-in_err-walk c =
    let u = c.args.ty.now in
    let s = scope_of c.args.names.now in
    let e = diagnostic_of c.in_err-walk.field-0.0 in
    let p = err_from_is_err_and c.from_residual.result c.from_residual.ensures.1 in
    rw (p.1, p.2) (subst (λ ds. Answers ⊥ ⊥ e (first_unmet ds)) (sym (append-nil (use_demand s u)))
    (answers_first e (ask_demands s.known (in_type_use u)) (match_if s u.index u.inline) (λ l. l) (λ m. m) c.in_err-walk.ensures))

pub returns-in_err-check_type_use : goal.returns-in_err-check_type_use
returns-in_err-check_type_use c =
    let u = c.args.ty.now in
    let s = scope_of c.args.names.now in
    let e = diagnostic_of c.in_err-check_type_use.field-0.0 in
    let p = err_from_is_err_and c.from_residual-in_err-check_type_use.result c.from_residual-in_err-check_type_use.ensures.1 in
    let same = ap (λ (v : TypeUse FunctionType). match_if s v.index v.inline) c.in_ok-walk.ensures.1 ∙ matched_still s u in
    rw (p.1, p.2) (subst (λ ds. Answers ⊥ ⊥ e (first_unmet ds)) (sym (append-nil (use_demand s u)))
    (answers_after e (ask_demands s.known (in_type_use u)) (match_if s u.index u.inline) (λ l. l) (λ m. m) c.in_ok-walk.ensures.0
    (subst (λ ds. Answers ⊥ ⊥ e (first_unmet ds)) same c.in_err-check_type_use.ensures)))

pub returns : goal.returns
returns c =
    let u = c.args.ty.now in
    let s = scope_of c.args.names.now in
    let same = ap (λ (v : TypeUse FunctionType). match_if s v.index v.inline) c.in_ok-walk.ensures.1 ∙ matched_still s u in (
      ap first_unmet (append-nil (use_demand s u))
          ∙ (first_unmet-append (ask_demands s.known (in_type_use u)) (match_if s u.index u.inline) c.in_ok-walk.ensures.0 ∙ (ap first_unmet
          (sym same) ∙ c.in_ok-check_type_use.ensures)),
      c.in_ok-walk.ensures.1,
    )
