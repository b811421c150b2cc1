use Rattle.std.specs.Prelude.{Option, Some, option_map}
use Rattle.std.proofs.Common.{ap, sym, ◌∙◌}
use Rattle.wast_tree_map.specs.Mapped.{mapped_constant}
use Rattle.wast_expand_types.specs.Tree.{Expression}
use Rattle.wast_expand_keys.specs.Expanders.{found_in}
use Rattle.wast_expand_keys.specs.Expanded.{binding_change}
use Rattle.wast_expand_types.proofs.constants.OptionExpressionBind.bind.Goals as goal

pub returns-in_ok-bind-in-Some-clause-bound : goal.returns-in_ok-bind-in-Some-clause-bound
returns-in_ok-bind-in-Some-clause-bound c = λ more.
    ap Some (c.in_ok-bind-in-Some.ensures.bound more)
    ∙ sym (ap (λ (o : Option Expression). option_map (mapped_constant (binding_change (found_in c.bind.new.binder.cx more))) o) c.in-Some.is)
