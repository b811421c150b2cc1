use Rattle.std.proofs.Common.{ap, sym, ◌∙◌, subst}
use Rattle.std.proofs.lemmas.Result.{err_from_is_err_and}
use Rattle.wast_base.specs.Filling.{RunsOut}
use Rattle.wast_expand_types.specs.Tree.form
use Rattle.wast_expand_types.specs.Tree.kind
use Rattle.wast_tree_nodes.specs.Sites.{OfItem, in_use, in_item_kind, uncovered_check}
use Rattle.wast_tree_map.specs.Mapped.{mapped_item_kind}
use Rattle.wast_expand_types.specs.Binding.{next_after}
use Rattle.wast_expand_keys.specs.Expanders.{found_in}
use Rattle.wast_expand_keys.specs.Expanded.{binding_change}
use Rattle.wast_expand_keys.specs.NeedingUses.{needed_in}
use Rattle.wast_expand_types.proofs.Adding.{adds_as}
use Rattle.wast_expand_types.proofs.Needing.{needed_besides}
use Rattle.wast_expand_types.proofs.binding.ItemKindBind.bind.Goals as goal

pub returns-in_ok-bind-in-Func-clause-bound : goal.returns-in_ok-bind-in-Func-clause-bound
returns-in_ok-bind-in-Func-clause-bound c = λ more. ap kind.Func (c.in_ok-bind-in-Func.ensures.bound more)
    ∙ sym (ap (mapped_item_kind (binding_change (found_in c.bind.new.binder.cx more))) c.in-Func.is)

pub returns-in_ok-bind-in-FuncExact-clause-bound : goal.returns-in_ok-bind-in-FuncExact-clause-bound
returns-in_ok-bind-in-FuncExact-clause-bound c = λ more.
    ap kind.FuncExact (c.in_ok-bind-in-FuncExact.ensures.bound more)
    ∙ sym (ap (mapped_item_kind (binding_change (found_in c.bind-in-FuncExact.new.binder.cx more))) c.in-FuncExact.is)

pub returns-in_ok-bind-in-FuncExact-clause-adds : goal.returns-in_ok-bind-in-FuncExact-clause-adds
returns-in_ok-bind-in-FuncExact-clause-adds c =
    adds_as (sym (ap (λ k. needed_in (in_item_kind k)) c.in-FuncExact.is
    ∙ needed_besides (in_use OfItem c.in-FuncExact.ty) (uncovered_check form.Descriptor))) c.in_ok-bind-in-FuncExact.ensures.adds

pub returns-in_ok-bind-in-Tag-clause-bound : goal.returns-in_ok-bind-in-Tag-clause-bound
returns-in_ok-bind-in-Tag-clause-bound c = λ more. ap kind.Tag (c.in_ok-bind-in-Tag.ensures.bound more)
    ∙ sym (ap (mapped_item_kind (binding_change (found_in c.bind-in-Tag.new.binder.cx more))) c.in-Tag.is)

pub returns-in_err-bind-in-FuncExact-clause-refusal : goal.returns-in_err-bind-in-FuncExact-clause-refusal
returns-in_err-bind-in-FuncExact-clause-refusal c =
    let p = err_from_is_err_and c.from_residual-in_err-bind-in-FuncExact.result c.from_residual-in_err-bind-in-FuncExact.ensures.1 in
    rw (p.1, p.2) (subst (λ ss. RunsOut (next_after c.args.binder.now ss) c.in_err-bind-in-FuncExact.field-0.0)
    (sym (ap (λ k. needed_in (in_item_kind k)) c.in-FuncExact.is
    ∙ needed_besides (in_use OfItem c.in-FuncExact.ty) (uncovered_check form.Descriptor))) c.in_err-bind-in-FuncExact.ensures.refusal)
