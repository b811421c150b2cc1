use Rattle.std.proofs.Common.{[]}
use Rattle.wast_script_json.proofs.References.{shared_some, shared_none}
use Rattle.wast_script_json.proofs.instances.Numbers.sharing.Goals as goal

pub returns-in_ok-_before-in-Some : goal.returns-in_ok-_before-in-Some
returns-in_ok-_before-in-Some c =
    shared_some _ c.args.id c.args.number c.in-Some.number c.in-Some.is
    (c.in_ok-_before-in-Some.ensures [] c.new-numbers.ensures.by_id) c.new-numbers.ensures.last

pub returns-in-None : goal.returns-in-None
returns-in-None c = shared_none _ c.args.id c.args.number c.in-None.is c.new-numbers.ensures
