use Rattle.std.proofs.Common.{◌∙◌, ap, sym}
use Rattle.wasm_ops.specs.Entities.{entity_type}
use Rattle.wast_tree_nodes.specs.Sites.{in_import}
use Rattle.wast_core_conv.specs.Encodable.{are_entered}
use Rattle.wast_core_conv.proofs.EntitiesReady.{kind_covered}
use Rattle.wast_core_conv.proofs.field_items.ImportsSectionItem.encode.Goals as goal

pub import-requires : goal.import-requires
import-requires c =
    ap (λ k. (entity_type k).is_covered) c.entity_type.ensures
    ∙ kind_covered c.in-Single.sig.kind (ap (λ i. are_entered (in_import i)) (sym c.in-Single.is) ∙ c.requires)
