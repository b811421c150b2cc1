use Rattle.std.proofs.Common.{◌≡◌, length, arith, refl}
use Rattle.wast_script_json.proofs.References.{one_more}
use Rattle.wast_script_json.proofs.instances.Instances.add.Goals as goal

pub returns : goal.returns
returns c =
    let count : c.len-number.result ≡ length c.args.self.now.interfaces.items = omega (arith, c.len-number.ensures, c.args.self.now.interfaces.ok.0) in
    one_more c.args.self.now _ c.args.id c.args.is_definition c.args.interface _ c.in_ok-push.ensures.items count c.in_ok-add.ensures refl
