use Rattle.std.proofs.Common.{refl}
use Rattle.wast_resolve_rules.specs.Demands.{HasManyItems}
use Rattle.wast_resolve_spaces.proofs.Trying.{many_fields}
use Rattle.wast_resolve_spaces.proofs.FoundClashes.{found_first, found_free}
use Rattle.wast_resolve_spaces.proofs.clashes.first_clash.Goals as goal

pub returns-clause-first : goal.returns-clause-first
returns-clause-first c = found_first (HasManyItems c.args.fields.now) c.visit_items.ensures refl c.requires (many_fields c.args.fields.now)

pub returns-clause-free : goal.returns-clause-free
returns-clause-free c none s = found_free (HasManyItems c.args.fields.now) c.visit_items.ensures refl c.requires (many_fields c.args.fields.now) none s
