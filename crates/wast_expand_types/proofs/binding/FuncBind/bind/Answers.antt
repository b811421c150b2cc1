use Rattle.std.proofs.Common.{◌++◌, ap, sym, ◌∙◌, subst}
use Rattle.std.proofs.lemmas.Result.{err_from_is_err_and}
use Rattle.wast_tree_nodes.specs.Sites.{OfItem, in_func_kind}
use Rattle.wast_base.specs.Filling.{RunsOut}
use Rattle.wast_expand_keys.specs.NeedingUses.{needed_in}
use Rattle.wast_expand_keys.specs.Expanders.{LookUp, found_in}
use Rattle.wast_expand_keys.specs.Expanded.{bound_use}
use Rattle.wast_expand_types.specs.Binding.{no_use, new_bindings, next_after}
use Rattle.wast_expand_types.proofs.Adding.{adds_as, adds_both, count_then, more_then}
use Rattle.wast_expand_types.proofs.Needing.{needed_func, bound_kind_anywhere}
use Rattle.wast_expand_types.proofs.binding.FuncBind.bind.Goals as goal

pub returns-in_err-bind-2-clause-refusal : goal.returns-in_err-bind-2-clause-refusal
returns-in_err-bind-2-clause-refusal c =
    let p = err_from_is_err_and c.from_residual-in_err-bind-2.result c.from_residual-in_err-bind-2.ensures.1 in
    rw (p.1, p.2) (subst (λ n. RunsOut n c.in_err-bind-2.field-0.0)
    (sym (ap (next_after c.args.binder.now) (needed_func c.args.self.now)
    ∙ count_then c.in_ok-bind.ensures.adds (needed_in (in_func_kind no_use c.args.self.now.kind))))
    c.in_err-bind-2.ensures.refusal)

pub returns-clause-bound : goal.returns-clause-bound
returns-clause-bound c = λ more i. record c.args.self.now {
  kind = (c.in_ok-bind-2.ensures.bound more ∙ sym (bound_kind_anywhere (found_in c.bind-2.new.binder.cx more) c.args.self.now.ty c.args.self.now.kind)) i;
  ty = (c.in_ok-bind.ensures.bound (new_bindings c.bind.new.binder (needed_in (in_func_kind no_use c.args.self.now.kind)) ++ more)
      ∙ ap (λ (find : LookUp). bound_use find OfItem c.args.self.now.ty) (sym (more_then c.in_ok-bind-2.ensures.adds more))) i;
}

pub returns-clause-adds : goal.returns-clause-adds
returns-clause-adds c = adds_as (sym (needed_func c.args.self.now)) (adds_both c.in_ok-bind.ensures.adds c.in_ok-bind-2.ensures.adds)
