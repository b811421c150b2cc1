-- The goals of `shuffle` that tactics leave open, closed by lemmas of Fills.
use Rattle.std.proofs.Common.{rules}
use Rattle.wat_syntax.specs.Tree.instr
use Rattle.wat_syntax.specs.Instructions.{u8, times}
use Rattle.wat_text.proofs.Fills.{filled_more, filled_all, made}
use Rattle.wat_text.proofs.reader.Reader.shuffle.Goals as goal

pub loop-place-preserved : goal.loop-place-preserved
loop-place-preserved c =
    filled_more u8 16 c.loop-place.place _ c.loop-place.self c.lane.new.self c.loop-place.lanes c.lane.result c.loop-place.invariant
    (search rules) c.lane.ensures

pub returns : goal.returns
returns c =
    made (times 16 u8) (λ ls. instr.i8x16_shuffle (record { lanes = ls })) c.args.self.now c.loop-place.self c.loop-place.lanes
    (filled_all u8 16 c.loop-place.place _ _ _ c.loop-place.invariant (search rules))
