use Rattle.std.proofs.Common.{◌≡◌, ◌∙◌, None, ap}
use Rattle.std.specs.FinMap.{get-empty}
use Rattle.wast_base.specs.Order.{key_of, key_cmp}
use Rattle.wast_resolve_namespace.specs.Namespaces.{number_in}
use Rattle.wast_resolve_passes.proofs.local_names.LocalNames.none.Goals as goal

pub invariant_of-result : goal.invariant_of-result
invariant_of-result c name n h =
    let none : number_in c.new.result name ≡ None = ap (λ s. number_in s name) c.new.ensures ∙ get-empty key_cmp (key_of name) in
    absurd (cc (h, none))
