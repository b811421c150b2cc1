use Rattle.std.proofs.Common.{length, ◌-◌}
use Rattle.wast_resolve_labels.specs.Indexed.{IsIndexOf}
use Rattle.wast_resolve_labels.proofs.index.index_all.Given as goal

abbrev pub invariant-loop-places : goal.invariant-loop-places
invariant-loop-places l = IsIndexOf l.blocks l.fn.places l.fn.outer.items → IsIndexOf l.blocks l.places l.outer.items

abbrev pub decreases-loop-places : goal.decreases-loop-places
decreases-loop-places l = length l.blocks - length l.outer.items
