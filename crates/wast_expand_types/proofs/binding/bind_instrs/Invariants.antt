use Rattle.wast_tree_nodes.specs.Sites.{constant_context, in_instr}
use Rattle.wast_tree_map.specs.Mapped.{mapped_instr}
use Rattle.wast_expand_keys.specs.Expanded.{binding_change}
use Rattle.wast_expand_keys.specs.NeedingUses.{needed_in}
use Rattle.wast_expand_types.proofs.Halfway.{IsHalfway}
use Rattle.wast_expand_types.proofs.binding.bind_instrs.Given as goal

abbrev pub invariant-loop-i : goal.invariant-loop-i
invariant-loop-i l = IsHalfway (λ i. needed_in (in_instr constant_context i))
    (λ find. mapped_instr (binding_change find) constant_context) l.fn.instrs l.instrs l.i l.fn.binder l.binder
