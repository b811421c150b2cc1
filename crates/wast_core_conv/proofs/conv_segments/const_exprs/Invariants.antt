use Rattle.std.proofs.Common.{take}
use Rattle.wast_core_conv.specs.Segments.{AreExpressions}
use Rattle.wast_core_conv.proofs.conv_segments.const_exprs.Given as goal

abbrev pub invariant-loop-expression : goal.invariant-loop-expression
invariant-loop-expression l = AreExpressions (take l.expression-index l.expressions) l.made
