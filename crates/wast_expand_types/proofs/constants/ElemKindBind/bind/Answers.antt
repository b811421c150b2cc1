use Rattle.std.proofs.Common.{ap, sym, ◌∙◌, subst}
use Rattle.std.proofs.lemmas.Result.{err_from_is_err_and}
use Rattle.wast_tree_nodes.specs.Sites.{in_elem_kind}
use Rattle.wast_tree_map.specs.Mapped.{mapped_elem_kind}
use Rattle.wast_base.specs.Filling.{RunsOut}
use Rattle.wast_expand_types.specs.Tree.{Expression}
use Rattle.wast_expand_types.specs.Tree.elem
use Rattle.wast_expand_keys.specs.NeedingUses.{needed_in}
use Rattle.wast_expand_keys.specs.Expanders.{LookUp, found_in}
use Rattle.wast_expand_keys.specs.Expanded.{binding_change}
use Rattle.wast_expand_types.specs.Binding.{next_after}
use Rattle.wast_expand_types.proofs.Adding.{adds_as}
use Rattle.wast_expand_types.proofs.InConstants.{active_needs, active_bound}
use Rattle.wast_expand_types.proofs.constants.ElemKindBind.bind.Goals as goal

pub returns-in_err-bind-in-Active-clause-refusal : goal.returns-in_err-bind-in-Active-clause-refusal
returns-in_err-bind-in-Active-clause-refusal c =
    let p = err_from_is_err_and c.from_residual.result c.from_residual.ensures.1 in
    rw (p.1, p.2) (subst (λ ss. RunsOut (next_after c.args.binder.now ss) c.in_err-bind-in-Active.field-0.0)
    (sym (ap (λ k. needed_in (in_elem_kind k)) c.in-Active.is ∙ active_needs c.in-Active.table c.in-Active.offset)) c.in_err-bind-in-Active.ensures.refusal)

pub returns-in_ok-bind-in-Active-clause-bound : goal.returns-in_ok-bind-in-Active-clause-bound
returns-in_ok-bind-in-Active-clause-bound c = λ more.
    let find : LookUp = found_in c.bind.new.binder.cx more in
    ap (λ (e : Expression). elem.Active c.in-Active.table e) (c.in_ok-bind-in-Active.ensures.bound more)
    ∙ (sym (active_bound find c.in-Active.table c.in-Active.offset) ∙ sym (ap (mapped_elem_kind (binding_change find)) c.in-Active.is))

pub returns-in_ok-bind-in-Active-clause-adds : goal.returns-in_ok-bind-in-Active-clause-adds
returns-in_ok-bind-in-Active-clause-adds c =
    adds_as (sym (ap (λ k. needed_in (in_elem_kind k)) c.in-Active.is ∙ active_needs c.in-Active.table c.in-Active.offset)) c.in_ok-bind-in-Active.ensures.adds
