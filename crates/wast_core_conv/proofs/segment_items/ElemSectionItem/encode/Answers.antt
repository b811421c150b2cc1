use Rattle.std.proofs.Common.{◌∙◌, ap}
use Rattle.wasm_out.specs.ElementSegments.{has_form}
use Rattle.wast_core_conv.specs.Meaning as meaning
use Rattle.wast_core_conv.proofs.Segmented.{suits_form}
use Rattle.wast_core_conv.proofs.SegmentsReady.{elem_parts}
use Rattle.wast_core_conv.proofs.segment_items.ElemSectionItem.encode.Goals as goal

pub add_elements-requires-clause-form : goal.add_elements-requires-clause-form
add_elements-requires-clause-form c =
    let e = c.args.self.now in
    ap (has_form (meaning.as_element_mode e.kind)) c.in_ok-elements.ensures.value.kind ∙ suits_form e.kind e.payload (elem_parts e c.requires).fits

pub add_elements-requires-clause-kind : goal.add_elements-requires-clause-kind
add_elements-requires-clause-kind c = (elem_parts c.args.self.now c.requires).stands
