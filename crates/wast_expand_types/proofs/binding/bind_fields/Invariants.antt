use Rattle.wast_tree_nodes.specs.Sites.{in_field}
use Rattle.wast_expand_keys.specs.Expanded.{bound_field}
use Rattle.wast_expand_keys.specs.NeedingUses.{needed_in}
use Rattle.wast_expand_types.proofs.Halfway.{IsHalfway}
use Rattle.wast_expand_types.proofs.binding.bind_fields.Given as goal

abbrev pub invariant-loop-i : goal.invariant-loop-i
invariant-loop-i l = IsHalfway (λ x. needed_in (in_field x)) bound_field l.fn.fields l.fields l.i l.fn.binder l.binder
