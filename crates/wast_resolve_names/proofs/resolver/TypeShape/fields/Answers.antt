use Rattle.wast_resolve_names.proofs.Accesses.{fields_seen}
use Rattle.wast_resolve_names.proofs.resolver.TypeShape.fields.Goals as goal

pub returns-in-None : goal.returns-in-None
returns-in-None c = fields_seen c.args.self.now.signature c.args.self.now.fields c.as_ref.result c.in-None.is c.as_ref.ensures.value
