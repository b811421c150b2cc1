use Rattle.std.proofs.Common.{ap, sym, ◌∙◌}
use Rattle.wast_tree_map.specs.Mapped.{mapped_global_kind}
use Rattle.wast_expand_types.specs.Tree.global
use Rattle.wast_expand_keys.specs.Expanders.{found_in}
use Rattle.wast_expand_keys.specs.Expanded.{binding_change}
use Rattle.wast_expand_types.proofs.constants.GlobalKindBind.bind.Goals as goal

pub returns-in_ok-bind-in-Inline-clause-bound : goal.returns-in_ok-bind-in-Inline-clause-bound
returns-in_ok-bind-in-Inline-clause-bound c = λ more. ap global.Inline (c.in_ok-bind-in-Inline.ensures.bound more)
    ∙ sym (ap (mapped_global_kind (binding_change (found_in c.bind.new.binder.cx more))) c.in-Inline.is)
