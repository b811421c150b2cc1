-- The goal of `all_producers` that tactics leave open, closed by lemmas of Producing.
use Rattle.std.proofs.Common.{rules}
use Rattle.wat_text.proofs.Producing.{gathers_more}
use Rattle.wat_text.proofs.reader.Reader.all_producers.Goals as goal

-- `search` does not find the three lists
pub loop-preserved : goal.loop-preserved
loop-preserved c = gathers_more c.args.self.now c.loop.self c.producer.new.self c.args.made.now c.loop.made c.producer.new.made
    c.loop.counter c.left-end.result c.loop-test.true (search rules) c.producer.ensures c.loop.invariant
