use Rattle.std.proofs.Common.{◌≡◌, map, drop}
use Rattle.wast_expand_keys.specs.Signatures.{same_values_by}
use Rattle.wast_resolve_rules.specs.Matches.{same_type}
use Rattle.wast_resolve_names.specs.Resolvers.{known_of}
use Rattle.wast_resolve_names.proofs.matches.same_values.Given as goal

abbrev pub invariant-loop-i : goal.invariant-loop-i
invariant-loop-i g l =
    let same = same_type (known_of l.cx) in
    same_values_by same (map g.T.Typed.type_in (drop l.i l.here)) (drop l.i l.there) ≡ same_values_by same (map g.T.Typed.type_in l.here) l.there
