use Rattle.std.proofs.Common.{◌++◌, append-nil, ap, sym, ◌∙◌, subst}
use Rattle.std.proofs.lemmas.Result.{err_from_is_err_and}
use Rattle.wast_tree_nodes.specs.Sites.{OfItem, in_use, in_func_kind}
use Rattle.wast_base.specs.Filling.{RunsOut}
use Rattle.wast_expand_keys.specs.NeedingUses.{needed_in}
use Rattle.wast_expand_keys.specs.Expanders.{found_in}
use Rattle.wast_expand_types.specs.Binding.{no_use, next_after}
use Rattle.wast_expand_types.proofs.Adding.{adds_as, first_runs_out}
use Rattle.wast_expand_types.proofs.Needing.{needed_func, bound_kind_anywhere}
use Rattle.wast_expand_types.proofs.binding.bind_outside.Goals as goal

pub returns-in_err-bind-clause-refusal : goal.returns-in_err-bind-clause-refusal
returns-in_err-bind-clause-refusal c =
    let f = c.args.func.now in
    let p = err_from_is_err_and c.from_residual.result c.from_residual.ensures.1 in
    rw (p.1, p.2) (subst (λ ss. RunsOut (next_after c.args.binder.now ss) c.in_err-bind.field-0.0) (sym (needed_func f))
    (first_runs_out c.args.binder.now (needed_in (in_use OfItem f.ty)) (needed_in (in_func_kind no_use f.kind))
    c.in_err-bind.field-0.0 c.in_err-bind.ensures.refusal))

pub returns-clause-bound : goal.returns-clause-bound
returns-clause-bound c = λ more i. record c.args.func.now {
  kind = sym (bound_kind_anywhere (found_in c.bind.new.binder.cx more) c.args.func.now.ty c.args.func.now.kind
      ∙ c.requires.stays (found_in c.bind.new.binder.cx more)) i;
  ty = c.in_ok-bind.ensures.bound more i;
}

pub returns-clause-adds : goal.returns-clause-adds
returns-clause-adds c =
    let f = c.args.func.now in
    let own = needed_in (in_use OfItem f.ty) in
    adds_as (sym (needed_func f ∙ (ap (λ ss. own ++ ss) c.requires.needs ∙ append-nil own))) c.in_ok-bind.ensures.adds
