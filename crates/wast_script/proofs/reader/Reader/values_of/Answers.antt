-- The goal of `values_of` that tactics leave open, closed by a lemma of Goes.
use Rattle.std.proofs.Common.{arith}
use Rattle.wast_script.proofs.Goes.{values_read}
use Rattle.wast_script.proofs.reader.Reader.values_of.Goals as goal

pub returns : goal.returns
returns c = values_read c.args.usage c.args.self.now c.all_values.new.self c.len-start.result c.len-end.result
    (omega (arith, c.len-start.ensures, c.args.self.now.lists.values.ok.0))
    (omega (arith, c.len-end.ensures, c.all_values.new.self.lists.values.ok.0)) c.all_values.ensures
