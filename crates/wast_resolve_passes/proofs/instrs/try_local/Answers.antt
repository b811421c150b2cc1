use Rattle.std.proofs.Common.{codes}
use Rattle.wast_resolve_rules.specs.Demands.{known_index}
use Rattle.wast_resolve_rules.specs.Resolved.{resolved_index}
use Rattle.wast_resolve_passes.specs.Locals.{local_in}
use Rattle.wast_resolve_names.specs.Resolvers.{scope_of}
use Rattle.wast_resolve_passes.proofs.Tries.{local_tried, tries_not}
use Rattle.wast_resolve_passes.proofs.instrs.try_local.Goals as goal

pub returns-clause-walks : goal.returns-clause-walks
returns-clause-walks c names l numbers =
    local_tried (scope_of names) l c.args.locals.now c.args.index.now c.try_number.new.idx c.try_number.result numbers c.try_number.ensures

pub returns-clause-stays : goal.returns-clause-stays
returns-clause-stays c =
    let f = local_in c.args.locals.now in
    let i = c.args.index.now in
    tries_not (known_index f (codes "local") i) (resolved_index f i) i c.try_number.new.idx c.try_number.result c.try_number.ensures
