use Rattle.std.proofs.Common.{◌≡◌, ◌++◌, take}
use Rattle.wast_expand_types.proofs.TypeItems.{in_types}
use Rattle.wast_expand_types.proofs.type_names.gather_types.Given as goal

abbrev pub invariant-loop-ty : goal.invariant-loop-ty
invariant-loop-ty l = l.gathering ≡ l.fn.gathering ++ in_types (take l.ty-index l.types)
