use Rattle.std.proofs.Common.{◌≡◌, ◌++◌, None, map, drop}
use Rattle.std.specs.List.{flat_map}
use Rattle.wast_resolve_rules.specs.Demands.{first_unmet}
use Rattle.wast_resolve_names.specs.Resolvers.{read_shape}
use Rattle.wast_resolve_rules.specs.Scopes.{shape_of}
use Rattle.wast_resolve_spaces.specs.Shaping.{type_demands}
use Rattle.wast_resolve_spaces.proofs.shapes.add_types.Given as goal

abbrev pub invariant-loop-ty : goal.invariant-loop-ty
invariant-loop-ty l =
    (map read_shape l.read.items ++ map (λ t. shape_of t.def.kind) (drop l.ty-index l.types) ≡ map read_shape l.fn.read.items ++ map
    (λ t. shape_of t.def.kind) l.types)
    × (first_unmet (flat_map type_demands (drop l.ty-index l.types)) ≡ None)
