use Rattle.std.specs.Prelude.{option_map}
use Rattle.std.proofs.Common.{ap, sym}
use Rattle.wast_tree_nodes.specs.Sites.{in_index, at_index, if_there}
use Rattle.wast_resolve_rules.specs.Demands.{first_unmet, ask_demands, site_demands}
use Rattle.wast_resolve_rules.specs.Resolved.{numbered_at}
use Rattle.wast_resolve_names.specs.Resolvers.{known_of, scope_of}
use Rattle.wast_resolve_names.proofs.Parts.{optional_demands, walks_as}
use Rattle.wast_resolve_passes.proofs.constants.walk_outside_optional.Goals as goal

pub returns : goal.returns
returns c =
    let s = scope_of c.args.names.now in
    let o = c.args.index.now in
    let want = option_map (numbered_at (known_of c.args.names.now) c.args.space) o in
    let new = c.walk_optional.new.index in
    walks_as {L = ⊥} {N = ⊥} (λ l. l) (λ m. m) (ask_demands s.known (if_there (in_index c.args.space) o))
    (site_demands s (if_there (at_index c.args.space) o)) want new want new c.walk_optional.result
    (ap first_unmet (sym (optional_demands s c.args.space o))) (λ h. h) c.walk_optional.ensures
