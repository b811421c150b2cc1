use Rattle.wast_script_json.proofs.References.{named_so, unnamed}
use Rattle.wast_script_json.proofs.instances.put.Goals as goal

pub returns-in_ok-insert-in-Some : goal.returns-in_ok-insert-in-Some
returns-in_ok-insert-in-Some c =
    named_so c.args.by_id.now c.insert.new.self c.args.id c.in-Some.id c.args.number c.in-Some.is c.in_ok-insert-in-Some.ensures.updates

pub returns-in-None : goal.returns-in-None
returns-in-None c = unnamed c.args.by_id.now c.args.id c.args.number c.in-None.is
