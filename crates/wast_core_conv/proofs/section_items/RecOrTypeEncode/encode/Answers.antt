use Rattle.std.proofs.Common.{◌≡◌, true, sym, ◌∙◌, subst}
use Rattle.wast_tree_nodes.specs.Sites.{in_type}
use Rattle.wasm_ops.specs.Spelling.{sub_type}
use Rattle.wast_core_conv.specs.Encodable.{is_encodable_ask}
use Rattle.wast_core_conv.specs.Entries.{is_encodable_entry}
use Rattle.wast_core_conv.specs.Meaning as meaning
use Rattle.wast_core_conv.proofs.EachPasses.{each_passes}
use Rattle.wast_core_conv.proofs.Spelled.{list_written}
use Rattle.wast_core_conv.proofs.section_items.RecOrTypeEncode.encode.Goals as goal

pub encode-requires : goal.encode-requires
encode-requires g c = rw c.as_slice.ensures (sym (each_passes is_encodable_ask in_type c.in-Rec.rec.now.types)
    ∙ subst (λ e. is_encodable_entry e ≡ true) c.in-Rec.is c.requires)

pub returns-in-Rec : goal.returns-in-Rec
returns-in-Rec g c =
    rw c.in-Rec.is (list_written g.S.Sink.rules c.args.out.now c.encode.new.out 0x4e (λ x. (sub_type x).bytes) (λ x. (sub_type x).in_range)
    (λ t. meaning.as_sub_type t.def) c.as_slice.result.now c.in-Rec.rec.now.types c.encode.result c.as_slice.ensures c.encode.ensures)
