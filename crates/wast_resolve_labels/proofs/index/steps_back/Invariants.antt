use Rattle.std.proofs.Common.{length, ◌-◌}
use Rattle.wast_base.specs.Ids.{name_of}
use Rattle.wast_resolve_labels.specs.Indexed.{labels_of}
use Rattle.wast_resolve_labels.proofs.Indexed.{IsSought}
use Rattle.wast_resolve_labels.proofs.index.steps_back.Given as goal

abbrev pub invariant-loop-steps : goal.invariant-loop-steps
invariant-loop-steps l = IsSought (name_of l.id) (labels_of l.blocks) l.steps

abbrev pub decreases-loop-steps : goal.decreases-loop-steps
decreases-loop-steps l = length l.blocks - l.steps
