use Rattle.std.proofs.Common.{map, subst, IsPermutation}
use Rattle.wast_resolve_namespace.specs.Heads.{pair_of}
use Rattle.wast_resolve_namespace.proofs.heads.split_group.Goals as goal

pub returns : goal.returns
returns c = subst (λ ps. IsPermutation ps (map pair_of c.sort_by_head.new.group)) c.set_heads.ensures c.sort_by_head.ensures
