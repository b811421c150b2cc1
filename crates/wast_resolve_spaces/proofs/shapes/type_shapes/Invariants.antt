use Rattle.std.proofs.Common.{◌≡◌, ◌++◌, None, map, drop}
use Rattle.std.specs.List.{flat_map}
use Rattle.wast_resolve_rules.specs.Demands.{first_unmet}
use Rattle.wast_resolve_names.specs.Resolvers.{read_shape}
use Rattle.wast_resolve_rules.specs.Scopes.{shapes_of_types}
use Rattle.wast_resolve_spaces.specs.Shaping.{types_demands}
use Rattle.wast_resolve_spaces.proofs.shapes.type_shapes.Given as goal

abbrev pub invariant-loop-field : goal.invariant-loop-field
invariant-loop-field l =
    (map read_shape l.read.items ++ shapes_of_types (drop l.field-index l.fields) ≡ shapes_of_types l.fields)
    × (first_unmet (flat_map types_demands (drop l.field-index l.fields)) ≡ None)
