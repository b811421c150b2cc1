use Rattle.std.proofs.Common.{sym, subst, map, IsPermutation}
use Rattle.wast_resolve_namespace.specs.Heads.{pair_of}
use Rattle.wast_resolve_namespace.proofs.heads.sorted_pairs.Goals as goal

pub returns : goal.returns
returns c = subst (IsPermutation (map pair_of c.args.headed.now)) (sym c.in_ok-sorted.ensures) c.sort_groups.ensures
