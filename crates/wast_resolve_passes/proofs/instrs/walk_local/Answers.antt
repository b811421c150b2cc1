use Rattle.std.specs.Prelude.{[]}
use Rattle.wast_resolve_rules.specs.Demands.{HasMany}
use Rattle.wast_resolve_names.specs.Resolvers.{scope_of}
use Rattle.wast_resolve_passes.proofs.Within.{local_walked}
use Rattle.wast_resolve_passes.proofs.instrs.walk_local.Goals as goal

pub returns : goal.returns
returns c names l numbers =
    local_walked (HasMany []) (scope_of names) l c.args.locals.now c.args.index.now c.number.new.idx c.number.result numbers c.number.ensures.answer
    c.number.ensures.index
