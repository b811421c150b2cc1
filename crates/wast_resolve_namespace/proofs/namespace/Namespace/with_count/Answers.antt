use Rattle.std.proofs.Common.{ap, ◌∙◌}
use Rattle.std.specs.FinMap.{from_sorted}
use Rattle.wast_base.specs.Order.{key_cmp}
use Rattle.wast_resolve_namespace.specs.Places.{entries_of}
use Rattle.wast_resolve_namespace.proofs.Searches.{none_sorted}
use Rattle.wast_resolve_namespace.proofs.namespace.Namespace.with_count.Goals as goal

pub returns : goal.returns
returns c =
    let sorted = ap (λ es. from_sorted {R = key_cmp} (entries_of es)) c.new.ensures.items in
    c.from_sorted.ensures ∙ ap (λ m. record { names = m; count = c.args.count }) (sorted ∙ none_sorted)
