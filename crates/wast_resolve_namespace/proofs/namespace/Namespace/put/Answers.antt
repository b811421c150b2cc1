use Rattle.std.proofs.Common.{sym, ◌∙◌, ap}
use Rattle.std.specs.FinMap.{get}
use Rattle.wast_base.specs.Ids.{name_of}
use Rattle.wast_resolve_namespace.specs.Namespaces.{NameSpace, named}
use Rattle.wast_base.specs.Order.{key_of}
use Rattle.wast_resolve_namespace.proofs.Searches.{get_sorted, insert_sorted, still_sorted}
use Rattle.wast_resolve_namespace.proofs.namespace.Namespace.put.Goals as goal

pub invariant_of-self-2 : goal.invariant_of-self-2
invariant_of-self-2 c = still_sorted c.self.inside.names.items c.put_among.new.names.items
    (key_of (name_of c.args.id)) c.args.number c.self.invariant (sym c.in_ok-before.ensures.ok)

pub returns-clause-before : goal.returns-clause-before
returns-clause-before c =
    let name = key_of (name_of c.args.id) in
    c.in_ok-before.ensures.before ∙ sym (get_sorted c.self.inside.names.items name c.self.invariant) ∙ ap (λ (s : NameSpace). get s.names name) c.self.view_is

pub returns-clause-ok : goal.returns-clause-ok
returns-clause-ok c =
    let name = key_of (name_of c.args.id) in
    sym (ap (λ m. record { names = m; count = c.self.inside.count })
    (insert_sorted c.self.inside.names.items c.put_among.new.names.items name c.args.number c.self.invariant (sym c.in_ok-before.ensures.ok)))
    ∙ ap (λ s. named s (name_of c.args.id) c.args.number) c.self.view_is
