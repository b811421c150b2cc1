-- The goal of `skip_strings` that tactics leave open, closed by a lemma of Loops.
use Rattle.std.proofs.Common.{rules}
use Rattle.wast_script.proofs.Loops.{strings_more}
use Rattle.wast_script.proofs.reader.Reader.skip_strings.Goals as goal

pub loop-preserved : goal.loop-preserved
loop-preserved c = strings_more _ c.loop.self c.skip.new.self c.loop.counter c.left-end.result c.loop-test.true (search rules) c.loop.invariant c.skip.ensures
