use Rattle.std.proofs.Common.{◌++◌, ap, sym, ◌∙◌, subst}
use Rattle.std.proofs.lemmas.Result.{err_from_is_err_and}
use Rattle.wast_tree_nodes.specs.Sites.{in_payload}
use Rattle.wast_tree_map.specs.Mapped.{mapped_elem_kind}
use Rattle.wast_base.specs.Filling.{RunsOut}
use Rattle.wast_expand_keys.specs.NeedingUses.{needed_in}
use Rattle.wast_expand_keys.specs.Expanders.{LookUp}
use Rattle.wast_expand_keys.specs.Expanded.{binding_change}
use Rattle.wast_expand_types.specs.Binding.{new_bindings, next_after}
use Rattle.wast_expand_types.proofs.Adding.{adds_as, adds_both, count_then, more_then, first_runs_out}
use Rattle.wast_expand_types.proofs.InConstants.{elem_needs}
use Rattle.wast_expand_types.proofs.constants.ElemBind.bind.Goals as goal

pub returns-in_err-bind-clause-refusal : goal.returns-in_err-bind-clause-refusal
returns-in_err-bind-clause-refusal c =
    let p = err_from_is_err_and c.from_residual.result c.from_residual.ensures.1 in
    rw (p.1, p.2) (subst (λ ss. RunsOut (next_after c.args.binder.now ss) c.in_err-bind.field-0.0) (sym (elem_needs c.args.self.now))
    (first_runs_out c.args.binder.now _ _ c.in_err-bind.field-0.0 c.in_err-bind.ensures.refusal))

pub returns-in_err-bind-2-clause-refusal : goal.returns-in_err-bind-2-clause-refusal
returns-in_err-bind-2-clause-refusal c =
    let p = err_from_is_err_and c.from_residual-in_err-bind-2.result c.from_residual-in_err-bind-2.ensures.1 in
    rw (p.1, p.2) (subst (λ n. RunsOut n c.in_err-bind-2.field-0.0)
    (sym (ap (next_after c.args.binder.now) (elem_needs c.args.self.now)
    ∙ count_then c.in_ok-bind.ensures.adds (needed_in (in_payload c.args.self.now.payload))))
    c.in_err-bind-2.ensures.refusal)

pub returns-clause-bound : goal.returns-clause-bound
returns-clause-bound c = λ more i. record c.args.self.now {
  kind = (c.in_ok-bind.ensures.bound (new_bindings c.bind.new.binder (needed_in (in_payload c.args.self.now.payload)) ++ more)
      ∙ ap (λ (find : LookUp). mapped_elem_kind (binding_change find) c.args.self.now.kind) (sym (more_then c.in_ok-bind-2.ensures.adds more))) i;
  payload = c.in_ok-bind-2.ensures.bound more i;
}

pub returns-clause-adds : goal.returns-clause-adds
returns-clause-adds c = adds_as (sym (elem_needs c.args.self.now)) (adds_both c.in_ok-bind.ensures.adds c.in_ok-bind-2.ensures.adds)
