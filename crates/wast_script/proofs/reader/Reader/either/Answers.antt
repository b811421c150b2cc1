-- The goal of `either` that tactics leave open, closed by a lemma of Alternatives.
use Rattle.std.proofs.Common.{arith}
use Rattle.wast_script.proofs.Alternatives.{either_read}
use Rattle.wast_script.proofs.reader.Reader.either.Goals as goal

pub returns : goal.returns
returns c = either_read c.args.self.now c.push_value.new.self c.alternatives.new.self
    c.set_either.new.self c.len-at.result c.saturating_sub-count.result
    (omega (arith, c.len-at.ensures, c.args.self.now.lists.values.ok.0)) c.push_value.ensures c.alternatives.ensures
    (omega (arith, c.alternatives.new.self.lists.values.ok.0)) c.set_either.ensures
