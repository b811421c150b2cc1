-- The goal of `constant` that tactics leave open, closed by a lemma of Goes.
use Rattle.wast_script.specs.Constants.{constant_of}
use Rattle.wast_script.proofs.Goes.{plain_read}
use Rattle.wast_script.proofs.reader.Reader.constant.Goals as goal

pub returns-in_default : goal.returns-in_default
returns-in_default c = plain_read (constant_of c.args.word c.args.usage) c.args.self.now c.scalar.new.self
    c.scalar.result c.scalar.ensures.decides c.scalar.ensures.plain c.scalar.ensures.few
