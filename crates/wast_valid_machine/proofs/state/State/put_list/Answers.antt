use Rattle.std.proofs.Common.{sym, ◌∙◌}
use Rattle.wast_valid_machine.proofs.Lists.{one_put, all_put}
use Rattle.wast_valid_machine.proofs.state.State.put_list.Goals as goal

pub loop-i-preserved : goal.loop-i-preserved
loop-i-preserved c = c.loop-i.invariant ∙ one_put c.args.given.now c.loop-i.i c.type_at.result c.loop-i.self c.put.new.self c.loop-i-test.true c.type_at.ensures c.in_ok-put.ensures.ok

pub returns-clause-ok : goal.returns-clause-ok
returns-clause-ok c = sym (c.loop-i.invariant ∙ all_put c.args.given.now c.loop-i.i c.loop-i.self c.loop-i-test.false)
