use Rattle.std.proofs.Common.{sym, ◌∙◌, ap, Some}
use Rattle.std.specs.FinMap.{get}
use Rattle.wast_base.specs.Ids.{name_of}
use Rattle.wast_base.specs.Order.{key_of}
use Rattle.wast_resolve_namespace.specs.Namespaces.{NameSpace}
use Rattle.wast_resolve_namespace.specs.Places.{IsAt, IsGap}
use Rattle.wast_resolve_namespace.proofs.Searches.{get_sorted, find_at, find_gap}
use Rattle.wast_resolve_namespace.proofs.namespace.Namespace.find.Goals as goal

pub returns-in-Ok : goal.returns-in-Ok
returns-in-Ok c =
    let name = key_of (name_of c.args.id.now) in
    let es = c.self.inside.names.items in
    let at : IsAt es name c.in-Ok.at = rw c.deref.ensures.value at c.in-Ok.ensures in
    ap (λ (e : _). Some e.1) c.index.ensures ∙ sym (find_at name es c.in-Ok.at c.index.result.now at) ∙ sym (get_sorted es name c.self.invariant)
    ∙ ap (λ (s : NameSpace). get s.names name) c.self.view_is

pub returns-in-Err : goal.returns-in-Err
returns-in-Err c =
    let name = key_of (name_of c.args.id.now) in
    let es = c.self.inside.names.items in
    let gap : IsGap es name c.in-Err.field-0 = rw c.deref.ensures.value at c.in-Err.ensures in
    sym (find_gap name es c.in-Err.field-0 gap) ∙ sym (get_sorted es name c.self.invariant) ∙ ap (λ (s : NameSpace). get s.names name) c.self.view_is
