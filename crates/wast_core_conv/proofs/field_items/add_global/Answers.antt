use Rattle.std.proofs.Common.{◌∙◌, ap}
use Rattle.wasm_ops.specs.Entities.{global_type}
use Rattle.wast_core_conv.proofs.EntitiesReady.{global_covered}
use Rattle.wast_core_conv.proofs.field_items.add_global.Goals as goal

pub global-requires : goal.global-requires
global-requires c = ap (λ x. (global_type x).is_covered) c.global_type.ensures ∙ global_covered c.args.ty.now c.requires.ty
