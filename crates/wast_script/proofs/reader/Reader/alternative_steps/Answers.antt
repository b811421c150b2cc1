-- The goal of `alternative_steps` that tactics leave open, closed by a lemma of Onto.
use Rattle.std.proofs.Common.{arith}
use Rattle.wat_syntax.specs.Tokens.{with_parts}
use Rattle.wast_script.specs.Constants.{all_alternatives}
use Rattle.wast_script.specs.Readers.{left, read_values}
use Rattle.wast_script.proofs.Onto.{alternative_more}
use Rattle.wast_script.proofs.reader.Reader.alternative_steps.Goals as goal

pub loop-preserved : goal.loop-preserved
loop-preserved c =
    let first = c.args.self.now in
    let step = c.alternative-depth in (
      alternative_more (with_parts (read_values first.lists) (all_alternatives (left first))) first c.loop.self
          step.new.self c.loop.counter c.left-end.result c.loop.depth step.result c.loop-test.true
          c.if-depth-eq0.false step.ensures c.loop.invariant.0,
      omega (arith, step.ensures.few, c.loop.invariant.1),
    )
