use Rattle.std.proofs.Common.{◌≡◌, ◌++◌, map, drop}
use Rattle.wast_expand_keys.specs.Numbers.{numbered_val}
use Rattle.wast_expand_keys.specs.Expanders.{numbers_in}
use Rattle.wast_expand_keys.proofs.keys.numbered.Given as goal

abbrev pub invariant-loop-ty : goal.invariant-loop-ty
invariant-loop-ty l = l.list.items ++ map (numbered_val (numbers_in l.cx)) (drop l.ty-index l.types) ≡ map (numbered_val (numbers_in l.cx)) l.types
