use Rattle.std.proofs.Common.{◌≡◌, ◌++◌, length}
use Rattle.std.specs.Vec.Iter.{into_iter_items}
use Rattle.wast_tree_nodes.specs.Items.{items}
use Rattle.wast_resolve_spaces.proofs.Trying.{by_space, AreTried}
use Rattle.wast_resolve_spaces.proofs.spaces.name_spaces.Given as goal

abbrev pub invariant-loop-gathered : goal.invariant-loop-gathered
invariant-loop-gathered l = AreTried (by_space (items l.fn.fields)) l.spaces.items l.clashes (length l.yielded) ×
    (l.yielded ++ into_iter_items l.gathered-iterator ≡ into_iter_items l.initial.gathered-iterator)
