use Rattle.std.proofs.Common.{arith}
use Rattle.wast_core_ranges.proofs.Found.{no_customs}
use Rattle.wast_core_ranges.proofs.finding.FieldRanges.has_customs.Goals as goal

pub returns : goal.returns
returns c none fields place h = no_customs c.args.self.now (λ k le lt. c.loop-rank.invariant k le (omega (arith, lt, c.loop-rank-test.false))) fields place h
