use Rattle.std.proofs.lemmas.List.Sorted.{IsPermutation-map}
use Rattle.wast_resolve_namespace.specs.Heads.{pair_of}
use Rattle.wast_resolve_namespace.proofs.heads.sort_by_name.Goals as goal

pub returns : goal.returns
returns c = IsPermutation-map pair_of c.args.group.now c.sort_unstable_by.new.self c.sort_unstable_by.ensures.permutation
