use Rattle.std.proofs.Common.{ap, sym, ◌∙◌}
use Rattle.wast_expand_types.specs.Tree.{FunctionType, TypeUse}
use Rattle.wast_expand_keys.specs.Expanders.{found_in}
use Rattle.wast_expand_types.proofs.Needing.{block_wants}
use Rattle.wast_expand_types.proofs.binding.BlockTypeBind.bind.Goals as goal

pub returns-clause-bound : goal.returns-clause-bound
returns-clause-bound c = λ more.
    let wants = sym c.wants_type.ensures ∙ c.if-not-wants_type.false in
    ap (λ (u : TypeUse FunctionType). record c.args.self.now { ty = u })
    (c.in_ok-bind.ensures.bound more ∙ sym (block_wants (found_in c.bind.new.binder.cx more) c.args.self.now.ty.index c.args.self.now.ty.inline wants))
