use Rattle.std.proofs.Common.{◌≡◌, ℕ, [], sym, ap, ◌∙◌, arith, length}
use Rattle.std.specs.FinMap as finmap
use Rattle.std.specs.FinMap.{entries-from_sorted}
use Rattle.std.proofs.Math.ListN.{get_or-eq_default}
use Rattle.wast_base.specs.Spaces.{rank_of}
use Rattle.wast_base.specs.Order.{key_cmp}
use Rattle.wast_resolve_namespace.specs.Namespaces.{empty_from}
use Rattle.wast_resolve_namespace.proofs.Searches.{none_sorted}
use Rattle.wast_resolve_names.specs.Resolvers.{Resolution}
use Rattle.wast_resolve_names.proofs.resolver.Resolver.pairs.Goals as goal

pub returns-else-rank-len : goal.returns-else-rank-len
returns-else-rank-len c =
    let spaces : length c.self.inside.spaces.items ≡ length c.args.self.now.spaces = ap (λ (r : Resolution). length r.spaces) c.self.view_is in
    sym (entries-from_sorted {X = ℕ} key_cmp [] tt)
    ∙ ap finmap.entries none_sorted
    ∙ sym (ap (λ s. finmap.entries s.names) (get_or-eq_default c.args.self.now.spaces (empty_from 0) {n = rank_of c.args.space} (omega arith)))
