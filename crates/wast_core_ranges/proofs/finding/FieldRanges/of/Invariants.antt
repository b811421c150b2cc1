use Rattle.std.proofs.Common.{◌≡◌, true, take}
use Rattle.wast_tree_nodes.specs.declared.kinds.FieldKind.{FieldKind}
use Rattle.wast_tree_nodes.specs.Kinds.{is_of}
use Rattle.wast_core_ranges.specs.FieldRanges.{is_reach, reach_of}
use Rattle.wast_core_ranges.proofs.finding.FieldRanges.of.Given as goal

abbrev pub invariant-loop-i : goal.invariant-loop-i
invariant-loop-i l = (k : FieldKind) → is_reach (is_of k) (take l.i l.fields) (reach_of l.reaches k) ≡ true
