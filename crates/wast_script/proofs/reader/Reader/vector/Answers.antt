-- The goal of `vector` that tactics leave open, closed by a lemma of Goes.
use Rattle.std.proofs.Common.{arith}
use Rattle.wast_script.proofs.Goes.{vector_read}
use Rattle.wast_script.proofs.reader.Reader.vector.Goals as goal

pub returns : goal.returns
returns c = vector_read c.args.usage c.args.self.now c.shape-shape.new.self c.lanes.new.self c.shape-shape.result c.len-start.result
    c.len-end.result c.shape-shape.ensures c.lanes.ensures (omega (arith, c.len-start.ensures, c.shape-shape.new.self.lists.lanes.ok.0))
    (omega (arith, c.len-end.ensures, c.lanes.new.self.lists.lanes.ok.0))
