use Rattle.std.proofs.Common.{◌≡◌, ◌++◌, map, drop}
use Rattle.wast_expand_keys.specs.Signatures.{type_of_param}
use Rattle.wast_expand_keys.specs.Numbers.{numbered_val}
use Rattle.wast_expand_keys.specs.Expanders.{numbers_in}
use Rattle.wast_expand_keys.proofs.keys.types_of.Given as goal

abbrev pub invariant-loop-param : goal.invariant-loop-param
invariant-loop-param l =
    l.types.items ++ map (numbered_val (numbers_in l.cx)) (map type_of_param (drop l.param-index l.params)) ≡ map (numbered_val (numbers_in l.cx))
    (map type_of_param l.params)
