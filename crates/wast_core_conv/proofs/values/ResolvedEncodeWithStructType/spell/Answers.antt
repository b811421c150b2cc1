use Rattle.std.proofs.Common.{sym, ◌∙◌}
use Rattle.wast_tree_nodes.specs.Sites.{in_struct_field}
use Rattle.wasm_ops.specs.Spelling.{field_type}
use Rattle.wast_core_conv.specs.Encodable.{is_encodable_ask}
use Rattle.wast_core_conv.specs.Meaning as meaning
use Rattle.wast_core_conv.proofs.EachPasses.{each_passes}
use Rattle.wast_core_conv.proofs.Spelled.{list_written}
use Rattle.wast_core_conv.proofs.values.ResolvedEncodeWithStructType.spell.Goals as goal

pub encode-requires : goal.encode-requires
encode-requires g c = rw c.as_slice.ensures (sym (each_passes is_encodable_ask in_struct_field c.args.ty.now.fields) ∙ c.requires)

pub returns : goal.returns
returns g c = list_written g.S.Sink.rules c.args.out.now c.encode.new.out 0x5f (λ x. (field_type x).bytes)
    (λ x. (field_type x).in_range) meaning.as_field_type c.as_slice.result.now c.args.ty.now.fields c.encode.result c.as_slice.ensures c.encode.ensures
