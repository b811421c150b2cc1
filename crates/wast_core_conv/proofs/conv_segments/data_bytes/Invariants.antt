use Rattle.std.proofs.Common.{◌≡◌, take}
use Rattle.wast_tree_nodes.specs.DataBytes.{all_bytes}
use Rattle.wast_core_conv.proofs.conv_segments.data_bytes.Given as goal

abbrev pub invariant-loop-value : goal.invariant-loop-value
invariant-loop-value l = l.bytes.items ≡ all_bytes (take l.value-index l.pieces)
