use Rattle.wast_core_conv.proofs.MemArgs.{aligned_below}
use Rattle.wast_core_conv.proofs.conv_immediates.logarithm.Goals as goal

pub returns-clause-below : goal.returns-clause-below
returns-clause-below c = λ power. aligned_below c.args.align power c.ranges.align.fits
