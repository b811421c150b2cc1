use Rattle.std.specs.Prelude.{⊤, []}
use Rattle.std.proofs.Common.{ap, sym, append-nil}
use Rattle.wast_resolve_rules.specs.Demands.{HasMany, first_unmet, access_demand, site_demands}
use Rattle.wast_tree_nodes.specs.Sites.{in_access}
use Rattle.wast_tree_map.specs.Mapped.{mapped_access}
use Rattle.wast_resolve_rules.specs.Resolved.{numbering_change}
use Rattle.wast_resolve_names.specs.Resolvers.{scope_of}
use Rattle.wast_resolve_names.proofs.Parts.{walks_as}
use Rattle.wast_resolve_passes.proofs.instrs.walk_access.Goals as goal

pub returns : goal.returns
returns c =
    let s = scope_of c.args.names.now in
    let a = c.args.access.now in
    let want = mapped_access (numbering_change s) a in
    walks_as {L = ⊤} {N = HasMany []} (λ l. absurd l) (λ m. absurd m) (access_demand s a.owner a.field)
    (site_demands s (in_access a)) want c.number_access.new.access want c.number_access.new.access c.number_access.result
    (ap first_unmet (sym (append-nil (access_demand s a.owner a.field)))) (λ h. h) c.number_access.ensures
