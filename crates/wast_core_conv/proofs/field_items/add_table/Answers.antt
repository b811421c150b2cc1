use Rattle.std.proofs.Common.{◌∙◌, ap}
use Rattle.wasm_ops.specs.Entities.{table_type}
use Rattle.wast_core_conv.proofs.EntitiesReady.{table_covered}
use Rattle.wast_core_conv.proofs.field_items.add_table.Goals as goal

pub table_with_init-requires : goal.table_with_init-requires
table_with_init-requires c = ap (λ x. (table_type x).is_covered) c.table_type-ty.ensures ∙ table_covered c.args.ty.now c.requires.ty
