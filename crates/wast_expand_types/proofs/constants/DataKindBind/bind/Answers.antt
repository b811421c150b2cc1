use Rattle.std.proofs.Common.{ap, sym, ◌∙◌}
use Rattle.wast_tree_map.specs.Mapped.{mapped_data_kind}
use Rattle.wast_expand_types.specs.Tree.{Expression}
use Rattle.wast_expand_types.specs.Tree.data_kind
use Rattle.wast_expand_keys.specs.Expanders.{found_in}
use Rattle.wast_expand_keys.specs.Expanded.{binding_change}
use Rattle.wast_expand_types.proofs.constants.DataKindBind.bind.Goals as goal

pub returns-in_ok-bind-in-Active-clause-bound : goal.returns-in_ok-bind-in-Active-clause-bound
returns-in_ok-bind-in-Active-clause-bound c = λ more.
    ap (λ (e : Expression). data_kind.Active c.in-Active.memory e) (c.in_ok-bind-in-Active.ensures.bound more)
    ∙ sym (ap (mapped_data_kind (binding_change (found_in c.bind.new.binder.cx more))) c.in-Active.is)
