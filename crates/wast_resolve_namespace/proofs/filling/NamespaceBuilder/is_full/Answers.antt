use Rattle.std.proofs.Common.{rules, ap, length}
use Rattle.wast_resolve_namespace.proofs.Gathered.{gathered_length}
use Rattle.wast_resolve_namespace.proofs.filling.NamespaceBuilder.is_full.Goals as goal

pub returns : goal.returns
returns c =
    let long = gathered_length 0 c.self.inside.pairs.items c.self.inside.count c.self.invariant in
    let seen = ap length c.self.view_is in
    search (rules, long, seen)
