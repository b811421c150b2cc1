use Rattle.std.proofs.Common.{refl}
use Rattle.wast_script_json.proofs.References.{as_definition, as_module}
use Rattle.wast_script_json.proofs.instances.Scope.add.Goals as goal

pub returns-then-is_definition : goal.returns-then-is_definition
returns-then-is_definition c = as_definition c.args.self.now _ c.args.id c.args.is_definition c.args.number c.if-is_definition.true c.in_ok-add.ensures refl

pub returns : goal.returns
returns c = as_module c.args.self.now _ c.args.id c.args.is_definition c.args.number c.if-is_definition.false c.in_ok-add.ensures c.in_ok-add-2.ensures
