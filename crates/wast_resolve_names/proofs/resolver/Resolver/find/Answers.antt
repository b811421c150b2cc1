use Rattle.std.proofs.Common.{◌≡◌, sym, ◌∙◌, ap, arith, length}
use Rattle.std.specs.FinMap.{get-empty}
use Rattle.std.proofs.Math.ListN.{get_or-eq_default}
use Rattle.wast_base.specs.Ids.{name_of}
use Rattle.wast_base.specs.Spaces.{rank_of}
use Rattle.wast_base.specs.Order.{key_of, key_cmp}
use Rattle.wast_resolve_namespace.specs.Namespaces.{number_in, empty_from}
use Rattle.wast_resolve_names.specs.Resolvers.{Resolution}
use Rattle.wast_resolve_names.proofs.resolver.Resolver.find.Goals as goal

pub returns-else-rank-len : goal.returns-else-rank-len
returns-else-rank-len c =
    let spaces : length c.self.inside.spaces.items ≡ length c.args.self.now.spaces = ap (λ (r : Resolution). length r.spaces) c.self.view_is in
    sym (get-empty key_cmp (key_of (name_of c.args.id.now)))
    ∙ sym (ap (λ s. number_in s (name_of c.args.id.now)) (get_or-eq_default c.args.self.now.spaces (empty_from 0) {n = rank_of c.args.space} (omega arith)))
