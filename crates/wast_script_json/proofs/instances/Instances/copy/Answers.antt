use Rattle.std.proofs.Common.{refl}
use Rattle.wast_script_json.proofs.References.{one_instance}
use Rattle.wast_script_json.proofs.instances.Instances.copy.Goals as goal

pub returns : goal.returns
returns c = one_instance c.args.self.now _ c.args.id c.args.original c.definition-number.result refl refl c.definition-number.ensures c.in_ok-copy.ensures
