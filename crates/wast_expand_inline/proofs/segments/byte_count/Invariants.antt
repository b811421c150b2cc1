use Rattle.std.proofs.Common.{◌≡◌, ◌<◌, ◌^◌, take, length}
use Rattle.wast_tree_nodes.specs.DataBytes.{all_bytes}
use Rattle.wast_expand_inline.proofs.segments.byte_count.Given as goal

abbrev pub invariant-loop-piece : goal.invariant-loop-piece
invariant-loop-piece l = record {
  counted : l.count ≡ length (all_bytes (take l.piece-index l.pieces));
  few : l.count < 2 ^ 32;
}
