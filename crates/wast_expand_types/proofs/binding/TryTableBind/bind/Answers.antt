use Rattle.std.proofs.Common.{[], ap, sym, ◌∙◌}
use Rattle.wast_tree_nodes.specs.Sites.{in_block}
use Rattle.wast_tree_map.specs.Mapped.{mapped_block}
use Rattle.wast_expand_keys.specs.NeedingUses.{needed_in}
use Rattle.wast_expand_keys.specs.Expanders.{found_in}
use Rattle.wast_expand_keys.specs.Expanded.{binding_change}
use Rattle.wast_expand_types.proofs.Adding.{adds_as}
use Rattle.wast_expand_types.proofs.Needing.{needed_block, needed_try_table, catches_kept}
use Rattle.wast_expand_types.proofs.binding.TryTableBind.bind.Goals as goal

pub returns-clause-bound : goal.returns-clause-bound
returns-clause-bound c = λ more t. record {
  block = (c.in_ok-bind.ensures.bound more ∙ ap (mapped_block (binding_change (found_in c.bind.new.binder.cx more))) c.get_mut.ensures.value) t;
  catches = sym (catches_kept (found_in c.bind.new.binder.cx more) [] c.args.self.now.catches) t;
}

pub returns-clause-adds : goal.returns-clause-adds
returns-clause-adds c =
    adds_as (ap (λ b. needed_in (in_block [] b)) c.get_mut.ensures.value
    ∙ (needed_block [] c.args.self.now.block ∙ sym (needed_try_table [] c.args.self.now))) c.in_ok-bind.ensures.adds
