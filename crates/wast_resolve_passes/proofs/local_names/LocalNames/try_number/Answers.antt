use Rattle.std.proofs.Common.{Bool, codes, sym, subst}
use Rattle.wast_resolve_rules.specs.Demands.{known_index}
use Rattle.wast_resolve_rules.specs.Resolved.{resolved_index}
use Rattle.wast_resolve_passes.specs.Locals.{local_in}
use Rattle.wast_resolve_names.specs.Walking.{Tries}
use Rattle.wast_resolve_names.proofs.Trials.{tries_index}
use Rattle.wast_resolve_passes.proofs.local_names.LocalNames.try_number.Goals as goal

pub returns : goal.returns
returns c =
    let f = local_in c.args.self.now in
    let i = c.args.idx.now in
    subst (λ (b : Bool). Tries (known_index f (codes "local") i) (resolved_index f i) i c.try_number.new.idx b) (sym c.is_some.ensures)
    (tries_index f (codes "local") i c.try_number.new.idx c.try_number.result c.try_number.ensures.number c.try_number.ensures.index)
