-- The goal of `all_expressions` that tactics leave open, closed by lemmas of Steps.
use Rattle.std.proofs.Common.{◌∙◌, sym, ap}
use Rattle.std.specs.Prelude.{not}
use Rattle.wat_syntax.specs.Types.{goes_on}
use Rattle.wat_syntax.specs.Segments.{elemexpr}
use Rattle.wat_syntax.specs.BareInstructions.{bare_expression}
use Rattle.wat_text.proofs.Steps.{one_built}
use Rattle.wat_text.proofs.reader.Reader.all_expressions.Goals as goal

-- `search` does not find the expression, which is a list of the tree itself
pub loop-preserved : goal.loop-preserved
loop-preserved c =
    one_built bare_expression goes_on elemexpr _ c.args.self.now c.loop.self c.expression_in-expression.new.self c.push_expression.new.self
    c.loop.counter c.left-end.result c.expression_in-expression.result c.loop.exprs c.push_expression.new.exprs
    c.loop-test.true (ap not (sym c.is_end.ensures ∙ c.if-is_end.false)) c.expression_in-expression.ensures c.push_expression.ensures c.loop.invariant
