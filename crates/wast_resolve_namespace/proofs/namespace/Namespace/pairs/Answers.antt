use Rattle.std.proofs.Common.{sym, ◌∙◌, ap}
use Rattle.std.specs.FinMap.{entries, entries-from_sorted}
use Rattle.wast_base.specs.Order.{key_cmp}
use Rattle.wast_resolve_namespace.specs.Places.{entries_of}
use Rattle.wast_resolve_namespace.specs.Namespaces.{NameSpace}
use Rattle.wast_resolve_namespace.proofs.namespace.Namespace.pairs.Goals as goal

pub returns : goal.returns
returns c =
    ap entries_of c.deref.ensures.value ∙ sym (entries-from_sorted key_cmp (entries_of c.self.inside.names.items) c.self.invariant)
    ∙ ap (λ (s : NameSpace). entries s.names) c.self.view_is
