use Rattle.std.proofs.Common.{◌∙◌, ap}
use Rattle.wast_tree_nodes.specs.Sites.{in_ref}
use Rattle.wast_core_conv.proofs.Ready.{asks_numbered}
use Rattle.wasm_ops.specs.Spelling.{ref_type}
use Rattle.wast_core_conv.proofs.TypesReady.{heap_covered}
use Rattle.wast_core_conv.proofs.instr_values.put_cast.Goals as goal

pub ref_type-requires : goal.ref_type-requires
ref_type-requires g c = asks_numbered (in_ref c.args.ty.now) c.requires

pub encode-requires : goal.encode-requires
encode-requires g c = ap (λ x. (ref_type x).is_covered) c.ref_type.ensures ∙ heap_covered c.args.ty.now.heap c.requires
