use Rattle.std.specs.Prelude.{⊤, flat_map, map}
use Rattle.std.proofs.Common.{ap, sym}
use Rattle.wast_tree_nodes.specs.Sites.{in_index, at_index}
use Rattle.wast_resolve_rules.specs.Demands.{first_unmet, ask_demands, site_demands, open_counts, HasMany}
use Rattle.wast_resolve_rules.specs.Resolved.{numbered_at}
use Rattle.wast_resolve_names.specs.Resolvers.{known_of, scope_of}
use Rattle.wast_resolve_names.proofs.Parts.{indices_demands, walks_as}
use Rattle.wast_resolve_passes.proofs.constants.walk_outside_indices.Goals as goal

pub returns : goal.returns
returns c =
    let s = scope_of c.args.names.now in
    let is = c.args.indices.now in
    let sites = flat_map (at_index c.args.space) is in
    let want = map (numbered_at (known_of c.args.names.now) c.args.space) is in
    let new = c.walk_indices.new.indices in
    walks_as {L = ⊤} {N = HasMany (open_counts sites)} (λ l. absurd l) (λ m. absurd m) (ask_demands s.known (flat_map (in_index c.args.space) is))
    (site_demands s sites) want new want new c.walk_indices.result
    (ap first_unmet (sym (indices_demands s c.args.space is))) (λ h. h) c.walk_indices.ensures
