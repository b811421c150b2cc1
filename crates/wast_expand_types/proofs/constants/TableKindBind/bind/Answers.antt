use Rattle.std.proofs.Common.{Option, ap, sym, ◌∙◌, subst}
use Rattle.std.proofs.lemmas.Result.{err_from_is_err_and}
use Rattle.wast_tree_nodes.specs.Sites.{in_table_kind}
use Rattle.wast_tree_map.specs.Mapped.{mapped_table_kind}
use Rattle.wast_base.specs.Filling.{RunsOut}
use Rattle.wast_expand_types.specs.Tree.{Expression, ElemPayload}
use Rattle.wast_expand_types.specs.Tree.table
use Rattle.wast_expand_keys.specs.NeedingUses.{needed_in}
use Rattle.wast_expand_keys.specs.Expanders.{LookUp, found_in}
use Rattle.wast_expand_keys.specs.Expanded.{binding_change}
use Rattle.wast_expand_types.specs.Binding.{next_after}
use Rattle.wast_expand_types.proofs.Adding.{adds_as, adds_nothing}
use Rattle.wast_expand_types.proofs.InConstants.{import_needs, normal_needs, inline_needs, import_bound, normal_bound, inline_bound}
use Rattle.wast_expand_types.proofs.constants.TableKindBind.bind.Goals as goal

pub returns-in-Import-clause-bound : goal.returns-in-Import-clause-bound
returns-in-Import-clause-bound c = λ more.
    let find : LookUp = found_in c.args.binder.now.cx more in
    c.in-Import.is ∙ (sym (import_bound find c.in-Import.import c.in-Import.ty) ∙ sym (ap (mapped_table_kind (binding_change find)) c.in-Import.is))

pub returns-in-Import-clause-adds : goal.returns-in-Import-clause-adds
returns-in-Import-clause-adds c = adds_nothing c.args.binder.now (ap (λ k. needed_in (in_table_kind k)) c.in-Import.is
    ∙ import_needs c.in-Import.import c.in-Import.ty)

pub returns-in_err-bind-in-Normal-clause-refusal : goal.returns-in_err-bind-in-Normal-clause-refusal
returns-in_err-bind-in-Normal-clause-refusal c =
    let p = err_from_is_err_and c.from_residual.result c.from_residual.ensures.1 in
    rw (p.1, p.2) (subst (λ ss. RunsOut (next_after c.args.binder.now ss) c.in_err-bind-in-Normal.field-0.0)
    (sym (ap (λ k. needed_in (in_table_kind k)) c.in-Normal.is ∙ normal_needs c.in-Normal.ty c.in-Normal.init_expr)) c.in_err-bind-in-Normal.ensures.refusal)

pub returns-in_ok-bind-in-Normal-clause-bound : goal.returns-in_ok-bind-in-Normal-clause-bound
returns-in_ok-bind-in-Normal-clause-bound c = λ more.
    let find : LookUp = found_in c.bind.new.binder.cx more in
    ap (λ (o : Option Expression). table.Normal c.in-Normal.ty o) (c.in_ok-bind-in-Normal.ensures.bound more)
    ∙ (sym (normal_bound find c.in-Normal.ty c.in-Normal.init_expr) ∙ sym (ap (mapped_table_kind (binding_change find)) c.in-Normal.is))

pub returns-in_ok-bind-in-Normal-clause-adds : goal.returns-in_ok-bind-in-Normal-clause-adds
returns-in_ok-bind-in-Normal-clause-adds c =
    adds_as (sym (ap (λ k. needed_in (in_table_kind k)) c.in-Normal.is ∙ normal_needs c.in-Normal.ty c.in-Normal.init_expr)) c.in_ok-bind-in-Normal.ensures.adds

pub returns-in_err-bind-in-Inline-clause-refusal : goal.returns-in_err-bind-in-Inline-clause-refusal
returns-in_err-bind-in-Inline-clause-refusal c =
    let p = err_from_is_err_and c.from_residual-in_err-bind-in-Inline.result c.from_residual-in_err-bind-in-Inline.ensures.1 in
    rw (p.1, p.2) (subst (λ ss. RunsOut (next_after c.args.binder.now ss) c.in_err-bind-in-Inline.field-0.0)
    (sym (ap (λ k. needed_in (in_table_kind k)) c.in-Inline.is
    ∙ inline_needs c.in-Inline.elem c.in-Inline.is64 c.in-Inline.shared c.in-Inline.payload)) c.in_err-bind-in-Inline.ensures.refusal)

pub returns-in_ok-bind-in-Inline-clause-bound : goal.returns-in_ok-bind-in-Inline-clause-bound
returns-in_ok-bind-in-Inline-clause-bound c = λ more.
    let find : LookUp = found_in c.bind-in-Inline.new.binder.cx more in
    ap (λ (p : ElemPayload). table.Inline c.in-Inline.elem c.in-Inline.is64 c.in-Inline.shared p) (c.in_ok-bind-in-Inline.ensures.bound more)
    ∙ (sym (inline_bound find c.in-Inline.elem c.in-Inline.is64 c.in-Inline.shared c.in-Inline.payload)
    ∙ sym (ap (mapped_table_kind (binding_change find)) c.in-Inline.is))

pub returns-in_ok-bind-in-Inline-clause-adds : goal.returns-in_ok-bind-in-Inline-clause-adds
returns-in_ok-bind-in-Inline-clause-adds c =
    adds_as (sym (ap (λ k. needed_in (in_table_kind k)) c.in-Inline.is
    ∙ inline_needs c.in-Inline.elem c.in-Inline.is64 c.in-Inline.shared c.in-Inline.payload)) c.in_ok-bind-in-Inline.ensures.adds
