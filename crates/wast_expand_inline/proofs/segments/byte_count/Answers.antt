use Rattle.std.proofs.Common.{arith}
use Rattle.wast_expand_inline.proofs.Pages.{too_many}
use Rattle.wast_expand_inline.proofs.segments.byte_count.Goals as goal

pub returns-then-more-count-clause-refusal : goal.returns-then-more-count-clause-refusal
returns-then-more-count-clause-refusal c =
    (c.refusal.ensures, too_many c.args.pieces.now c.loop-piece.piece-index c.piece-item.result c.loop-piece-test.true c.piece-item.is (omega arith))
