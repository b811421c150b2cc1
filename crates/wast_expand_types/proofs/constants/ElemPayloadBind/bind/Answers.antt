use Rattle.std.proofs.Common.{List, ap, sym, ◌∙◌, subst}
use Rattle.std.proofs.lemmas.Result.{err_from_is_err_and}
use Rattle.wast_tree_nodes.specs.Sites.{in_payload}
use Rattle.wast_tree_map.specs.Mapped.{mapped_payload}
use Rattle.wast_base.specs.Filling.{RunsOut}
use Rattle.wast_expand_types.specs.Tree.{Expression}
use Rattle.wast_expand_types.specs.Tree.payload
use Rattle.wast_expand_keys.specs.NeedingUses.{needed_in}
use Rattle.wast_expand_keys.specs.Expanders.{LookUp, found_in}
use Rattle.wast_expand_keys.specs.Expanded.{binding_change}
use Rattle.wast_expand_types.specs.Binding.{next_after}
use Rattle.wast_expand_types.proofs.Adding.{adds_as, adds_nothing}
use Rattle.wast_expand_types.proofs.InConstants.{functions_need, exprs_need, functions_bound, exprs_bound}
use Rattle.wast_expand_types.proofs.constants.ElemPayloadBind.bind.Goals as goal

pub returns-in-Indices-clause-bound : goal.returns-in-Indices-clause-bound
returns-in-Indices-clause-bound c = λ more.
    let find : LookUp = found_in c.args.binder.now.cx more in
    c.in-Indices.is ∙ (sym (functions_bound find c.in-Indices.field-0) ∙ sym (ap (mapped_payload (binding_change find)) c.in-Indices.is))

pub returns-in-Indices-clause-adds : goal.returns-in-Indices-clause-adds
returns-in-Indices-clause-adds c = adds_nothing c.args.binder.now (ap (λ k. needed_in (in_payload k)) c.in-Indices.is ∙ functions_need c.in-Indices.field-0)

pub returns-in_err-bind_each-in-Exprs-clause-refusal : goal.returns-in_err-bind_each-in-Exprs-clause-refusal
returns-in_err-bind_each-in-Exprs-clause-refusal c =
    let p = err_from_is_err_and c.from_residual.result c.from_residual.ensures.1 in
    rw (p.1, p.2) (subst (λ ss. RunsOut (next_after c.args.binder.now ss) c.in_err-bind_each-in-Exprs.field-0.0)
    (sym (ap (λ k. needed_in (in_payload k)) c.in-Exprs.is ∙ exprs_need c.in-Exprs.ty c.in-Exprs.exprs)) c.in_err-bind_each-in-Exprs.ensures.refusal)

pub returns-in_ok-bind_each-in-Exprs-clause-bound : goal.returns-in_ok-bind_each-in-Exprs-clause-bound
returns-in_ok-bind_each-in-Exprs-clause-bound c = λ more.
    let find : LookUp = found_in c.bind_each.new.binder.cx more in
    ap (λ (es : List Expression). payload.Exprs c.in-Exprs.ty es) (c.in_ok-bind_each-in-Exprs.ensures.bound more)
    ∙ (sym (exprs_bound find c.in-Exprs.ty c.in-Exprs.exprs) ∙ sym (ap (mapped_payload (binding_change find)) c.in-Exprs.is))

pub returns-in_ok-bind_each-in-Exprs-clause-adds : goal.returns-in_ok-bind_each-in-Exprs-clause-adds
returns-in_ok-bind_each-in-Exprs-clause-adds c =
    adds_as (sym (ap (λ k. needed_in (in_payload k)) c.in-Exprs.is ∙ exprs_need c.in-Exprs.ty c.in-Exprs.exprs)) c.in_ok-bind_each-in-Exprs.ensures.adds
