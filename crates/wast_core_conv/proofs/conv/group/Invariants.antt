use Rattle.std.proofs.Common.{◌≡◌, map, take}
use Rattle.wast_core_conv.specs.Meaning as meaning
use Rattle.wast_core_conv.proofs.conv.group.Given as goal

abbrev pub invariant-loop-ty : goal.invariant-loop-ty
invariant-loop-ty l = l.made ≡ map (λ t. meaning.as_sub_type t.def) (take l.ty-index l.types)
