use Rattle.std.proofs.Common.{sym, ◌∙◌}
use Rattle.wast_valid_machine.proofs.Lists.{one_back, all_back}
use Rattle.wast_valid_machine.proofs.state.State.put_back.Goals as goal

pub loop-t-preserved : goal.loop-t-preserved
loop-t-preserved c = c.loop-t.invariant ∙ one_back c.loop-t.kept c.pop.new.self c.in-Some.t c.loop-t.self c.put.new.self c.in-Some.ensures c.in_ok-put.ensures.ok

pub returns-clause-ok : goal.returns-clause-ok
returns-clause-ok c = sym (c.loop-t.invariant ∙ all_back c.loop-t.kept c.loop-t.self c.in_default.ensures.0)
