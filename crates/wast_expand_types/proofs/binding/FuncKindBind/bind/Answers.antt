use Rattle.std.proofs.Common.{ap, sym, ◌∙◌, subst}
use Rattle.std.proofs.lemmas.Result.{err_from_is_err_and}
use Rattle.wast_tree_nodes.specs.Sites.{in_func_kind}
use Rattle.wast_base.specs.Filling.{RunsOut}
use Rattle.wast_tree_map.specs.Mapped.{mapped_func_kind}
use Rattle.wast_expand_types.specs.Tree.{Expression}
use Rattle.wast_expand_types.specs.Tree.func
use Rattle.wast_expand_keys.specs.NeedingUses.{needed_in}
use Rattle.wast_expand_keys.specs.Expanders.{found_in}
use Rattle.wast_expand_keys.specs.Expanded.{binding_change}
use Rattle.wast_expand_types.specs.Binding.{no_use, next_after}
use Rattle.wast_expand_types.proofs.Adding.{adds_as}
use Rattle.wast_expand_types.proofs.Needing.{needed_inline, inline_bound}
use Rattle.wast_expand_types.proofs.binding.FuncKindBind.bind.Goals as goal

pub returns-in_err-bind-in-Inline-clause-refusal : goal.returns-in_err-bind-in-Inline-clause-refusal
returns-in_err-bind-in-Inline-clause-refusal c =
    let p = err_from_is_err_and c.from_residual.result c.from_residual.ensures.1 in
    rw (p.1, p.2) (subst (λ ss. RunsOut (next_after c.args.binder.now ss) c.in_err-bind-in-Inline.field-0.0)
    (sym (ap (λ k. needed_in (in_func_kind no_use k)) c.in-Inline.is
    ∙ needed_inline no_use c.in-Inline.locals c.in-Inline.expression)) c.in_err-bind-in-Inline.ensures.refusal)

pub returns-in_ok-bind-in-Inline-clause-bound : goal.returns-in_ok-bind-in-Inline-clause-bound
returns-in_ok-bind-in-Inline-clause-bound c = λ more.
    ap (λ (e : Expression). func.Inline c.in-Inline.locals e) (c.in_ok-bind-in-Inline.ensures.bound more)
    ∙ (sym (inline_bound (found_in c.bind.new.binder.cx more) no_use c.in-Inline.locals c.in-Inline.expression)
    ∙ sym (ap (mapped_func_kind (binding_change (found_in c.bind.new.binder.cx more)) no_use) c.in-Inline.is))

pub returns-in_ok-bind-in-Inline-clause-adds : goal.returns-in_ok-bind-in-Inline-clause-adds
returns-in_ok-bind-in-Inline-clause-adds c =
    adds_as (sym (ap (λ k. needed_in (in_func_kind no_use k)) c.in-Inline.is
    ∙ needed_inline no_use c.in-Inline.locals c.in-Inline.expression)) c.in_ok-bind-in-Inline.ensures.adds
