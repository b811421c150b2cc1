use Rattle.std.proofs.Common.{List, ap, sym, ◌∙◌, subst}
use Rattle.std.proofs.lemmas.Result.{err_from_is_err_and}
use Rattle.wast_tree_nodes.specs.Sites.{constant_context}
use Rattle.wast_base.specs.Filling.{RunsOut}
use Rattle.wast_expand_types.specs.Tree.{Instruction}
use Rattle.wast_expand_keys.specs.Expanders.{found_in}
use Rattle.wast_expand_types.specs.Binding.{next_after}
use Rattle.wast_expand_types.proofs.Adding.{adds_as}
use Rattle.wast_expand_types.proofs.Needing.{needed_constant, bound_instrs}
use Rattle.wast_expand_types.proofs.binding.ExpressionBind.bind.Goals as goal

pub returns-in_err-bind_instrs-clause-refusal : goal.returns-in_err-bind_instrs-clause-refusal
returns-in_err-bind_instrs-clause-refusal c =
    let p = err_from_is_err_and c.from_residual.result c.from_residual.ensures.1 in
    rw (p.1, p.2) (subst (λ ss. RunsOut (next_after c.args.binder.now ss) c.in_err-bind_instrs.field-0.0)
    (sym (needed_constant c.args.self.now)) c.in_err-bind_instrs.ensures.refusal)

pub returns-clause-bound : goal.returns-clause-bound
returns-clause-bound c = λ more.
    ap (λ (xs : List Instruction). record c.args.self.now { instrs = xs }) (c.in_ok-bind_instrs.ensures.bound more
    ∙ sym (bound_instrs (found_in c.bind_instrs.new.binder.cx more) constant_context c.args.self.now.instrs))

pub returns-clause-adds : goal.returns-clause-adds
returns-clause-adds c = adds_as (sym (needed_constant c.args.self.now)) c.in_ok-bind_instrs.ensures.adds
