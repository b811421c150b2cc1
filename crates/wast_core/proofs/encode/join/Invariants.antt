use Rattle.std.proofs.Common.{◌≡◌, take}
use Rattle.wast_core.specs.Headline.{joined_pieces}
use Rattle.wast_core.proofs.encode.join.Given as goal

abbrev pub invariant-loop-piece : goal.invariant-loop-piece
invariant-loop-piece l = l.out.items ≡ joined_pieces (take l.piece-index l.pieces)
