use Rattle.std.proofs.Common.{sym, ap, ◌∙◌}
use Rattle.wast_base.specs.Ids.{name_of}
use Rattle.wast_base.specs.Spaces.{position_of}
use Rattle.wast_resolve_namespace.specs.Filling.{first_number}
use Rattle.wast_resolve_namespace.proofs.FirstNumbers.{first_bearer}
use Rattle.wast_resolve_namespace.proofs.filling.NamespaceBuilderNumbering.number_of.Goals as goal

pub returns : goal.returns
returns c =
    let own = c.self.inside in
    let q = name_of c.args.id.now in
    c.first_number.ensures ∙ (ap (first_number q) c.deref.ensures.value ∙ (sym (first_bearer q own.pairs.items own.count c.self.invariant)
    ∙ ap (position_of q) c.self.view_is))
