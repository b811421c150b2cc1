use Rattle.std.proofs.Common.{◌∙◌, ap}
use Rattle.wast_tree_nodes.specs.Sites.{in_ref}
use Rattle.wast_core_conv.proofs.EachPasses.{both_true}
use Rattle.wast_core_conv.proofs.Ready.{asks_numbered}
use Rattle.wast_core_conv.proofs.Standing.{cast_parts}
use Rattle.wasm_ops.specs.Spelling.{ref_type}
use Rattle.wast_core_conv.proofs.TypesReady.{heap_covered}
use Rattle.wast_core_conv.proofs.instr_values.put_br_cast.Goals as goal

pub index-requires : goal.index-requires
index-requires g c = (cast_parts c.args.label.now c.args.to.now c.args.from.now c.requires).label

pub ref_type-requires : goal.ref_type-requires
ref_type-requires g c = asks_numbered (in_ref c.args.from.now) (cast_parts c.args.label.now c.args.to.now c.args.from.now c.requires).from

pub ref_type-requires-2 : goal.ref_type-requires-2
ref_type-requires-2 g c = asks_numbered (in_ref c.args.to.now) (cast_parts c.args.label.now c.args.to.now c.args.from.now c.requires).to

pub encode-requires : goal.encode-requires
encode-requires g c =
    let parts = cast_parts c.args.label.now c.args.to.now c.args.from.now c.requires in
    both_true _ _ (ap (λ x. (ref_type x).is_covered) c.ref_type.ensures ∙ heap_covered c.args.from.now.heap parts.from)
    (ap (λ x. (ref_type x).is_covered) c.ref_type-2.ensures ∙ heap_covered c.args.to.now.heap parts.to)
