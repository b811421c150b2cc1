use Rattle.std.proofs.Common.{ap, ◌∙◌, subst, map, IsPermutation}
use Rattle.wast_resolve_namespace.specs.Heads.{pair_of}
use Rattle.wast_resolve_namespace.proofs.heads.by_heads.Goals as goal

pub returns : goal.returns
returns c =
    let lent = ap (map pair_of) c.deref_mut.ensures.value ∙ c.in_ok-headed.ensures in
    subst (λ ps. IsPermutation ps c.in_ok-sorted.sorted.items) lent c.in_ok-sorted.ensures
