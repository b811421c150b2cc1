use Rattle.std.proofs.Common.{ap}
use Rattle.std.specs.Prelude.{option_copied}
use Rattle.wast_script_json.proofs.References.{of_module, of_none}
use Rattle.wast_script_json.proofs.instances.Instances.module.Goals as goal

pub returns-in_ok-add-in-Some : goal.returns-in_ok-add-in-Some
returns-in_ok-add-in-Some c s k =
    of_module _ c.in-Some.converted.now c.in_ok-interface-in-Some.interface c.args.id c.args.is_definition _ s
    (ap option_copied c.in-Some.is) c.in_ok-interface-in-Some.ensures
    (c.in_ok-add-in-Some.ensures s k)

pub returns-in-None : goal.returns-in-None
returns-in-None c s k = of_none _ c.args.id c.args.is_definition _ s (ap option_copied c.in-None.is) k
