use Rattle.std.proofs.Common.{refl}
use Rattle.wast_script_json.proofs.References.{as_instance, no_instance}
use Rattle.wast_script_json.proofs.instances.Scope.copy.Goals as goal

pub returns-in_ok-add-in-Some : goal.returns-in_ok-add-in-Some
returns-in_ok-add-in-Some c = as_instance c.args.self.now _ c.args.id c.args.number c.in-Some.number c.in-Some.is refl c.in_ok-add-in-Some.ensures

pub returns-in-None : goal.returns-in-None
returns-in-None c = no_instance c.args.self.now c.args.id c.args.number c.in-None.is
