-- The goal of `all_values` that tactics leave open, closed by a lemma of Onto.
use Rattle.std.proofs.Common.{rules}
use Rattle.wat_syntax.specs.Tokens.{with_parts}
use Rattle.wast_script.specs.Constants.{values}
use Rattle.wast_script.specs.Readers.{left, read_values}
use Rattle.wast_script.proofs.Onto.{values_more}
use Rattle.wast_script.proofs.reader.Reader.all_values.Goals as goal

pub loop-preserved : goal.loop-preserved
loop-preserved c =
    let first = c.args.self.now in
    values_more c.args.usage (with_parts (read_values first.lists) (values c.args.usage (left first))) first
    c.loop.self c.argument_or_result.new.self c.loop.counter c.left-end.result c.loop-test.true (search rules)
    c.argument_or_result.ensures c.loop.invariant
