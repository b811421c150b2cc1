use Rattle.std.proofs.Common.{ap, sym, ◌∙◌, subst}
use Rattle.std.proofs.lemmas.Result.{err_from_is_err_and}
use Rattle.wast_base.specs.Filling.{RunsOut}
use Rattle.wast_expand_types.specs.Tree.{GlobalKind}
use Rattle.wast_expand_keys.specs.Expanders.{found_in}
use Rattle.wast_expand_types.specs.Binding.{next_after}
use Rattle.wast_expand_types.proofs.Adding.{adds_as}
use Rattle.wast_expand_types.proofs.InConstants.{global_needs, global_bound}
use Rattle.wast_expand_types.proofs.constants.GlobalBind.bind.Goals as goal

pub returns-in_err-bind-clause-refusal : goal.returns-in_err-bind-clause-refusal
returns-in_err-bind-clause-refusal c =
    let p = err_from_is_err_and c.from_residual.result c.from_residual.ensures.1 in
    rw (p.1, p.2) (subst (λ ss. RunsOut (next_after c.args.binder.now ss) c.in_err-bind.field-0.0)
    (sym (global_needs c.args.self.now)) c.in_err-bind.ensures.refusal)

pub returns-clause-bound : goal.returns-clause-bound
returns-clause-bound c = λ more. ap (λ (k : GlobalKind). record c.args.self.now { kind = k }) (c.in_ok-bind.ensures.bound more)
    ∙ sym (global_bound (found_in c.bind.new.binder.cx more) c.args.self.now)

pub returns-clause-adds : goal.returns-clause-adds
returns-clause-adds c = adds_as (sym (global_needs c.args.self.now)) c.in_ok-bind.ensures.adds
