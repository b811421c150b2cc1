use Rattle.std.specs.Prelude.{[]}
use Rattle.wast_resolve_rules.specs.Demands.{HasMany}
use Rattle.wast_resolve_names.specs.Resolvers.{scope_of}
use Rattle.wast_resolve_passes.proofs.Within.{label_checked}
use Rattle.wast_resolve_passes.proofs.instrs.walk_else.Goals as goal

pub returns : goal.returns
returns c names = label_checked (HasMany []) (scope_of names) c.args.labels.now c.args.label.now c.check.result c.check.ensures
