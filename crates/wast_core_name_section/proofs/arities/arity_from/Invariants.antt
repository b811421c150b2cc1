use Rattle.std.proofs.Common.{◌≡◌, ◌+◌, length, take}
use Rattle.std.specs.List.{flat_map}
use Rattle.wast_core_name_section.proofs.arities.arity_from.Given as goal

abbrev pub invariant-loop-field : goal.invariant-loop-field
invariant-loop-field g l = length (flat_map g.T.FieldTypes.types (take l.field-index l.fields)) + l.left ≡ l.index
