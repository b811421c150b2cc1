use Rattle.std.proofs.Common.{◌≡◌, ◌++◌, map, drop}
use Rattle.wast_expand_keys.specs.Expanded.{unnamed_param}
use Rattle.wast_expand_keys.proofs.keys.params_of.Given as goal

abbrev pub invariant-loop-ty : goal.invariant-loop-ty
invariant-loop-ty l = l.params.items ++ map unnamed_param (drop l.ty-index l.types) ≡ map unnamed_param l.types
