use Rattle.std.proofs.Common.{◌≡◌, true, List, ap, sym, ◌∙◌, ◌==◌, ◌&&◌, length, map}
use Rattle.std.specs.List.{list_all}
use Rattle.wast_base.specs.Ids.{is_number}
use Rattle.wast_tree_nodes.specs.Sites.{in_inner, in_def}
use Rattle.wasm_ops.specs.Spelling.{sub_bytes, composite_inner_type}
use Rattle.wast_core_conv.specs.Meaning as meaning
use Rattle.wast_core_conv.specs.Encodable.{is_encodable_ask, are_encodable}
use Rattle.wast_core_conv.specs.Tree.{Index, TypeDef}
use Rattle.wast_core_conv.specs.Tree.space
use Rattle.wast_core_conv.proofs.EachPasses.{both_true}
use Rattle.wast_core_conv.proofs.Spelled.{final_is, open_bytes, final_bytes, sub_written}
use Rattle.wast_core_conv.proofs.Standing.{encodable_in}
use Rattle.wast_core_conv.proofs.TypesReady.{def_parts}
use Rattle.wast_core_conv.proofs.values.ResolvedEncodeWithTypeDef.spell.Goals as goal

-- The supertypes are numbers, and the composite type may be encoded.
parents_and_kind : (d : TypeDef) (ps : List Index) → ps ≡ d.parents → are_encodable (in_def d) ≡ true
    → (list_all is_number ps && are_encodable (in_inner d.kind)) ≡ true
parents_and_kind d ps same e =
    let parts = def_parts is_encodable_ask d e in
    both_true (list_all is_number ps) (are_encodable (in_inner d.kind)) (ap (list_all is_number) same
    ∙ (sym (encodable_in space.Ty d.parents) ∙ parts.parents)) parts.kind

pub encode-requires : goal.encode-requires
encode-requires g c = parents_and_kind c.args.def.now c.as_slice.result.now c.as_slice.ensures c.requires

pub returns-then-not-unwrap_or : goal.returns-then-not-unwrap_or
returns-then-not-unwrap_or g c =
    let d = c.args.def.now in
    let ps = c.as_slice.result.now in
    let composite = (composite_inner_type (meaning.as_inner_type d.kind)).bytes in
    sub_written g.S.Sink.rules c.args.out.now c.encode.new.out d ps _ c.encode.result c.as_slice.ensures
    (open_bytes meaning.index_value ps composite ∙ ap (λ m. sub_bytes m (map meaning.index_value ps) composite) (c.if-not-unwrap_or.ensures
    ∙ final_is d.final_type)) c.encode.ensures

pub encode-requires-2 : goal.encode-requires-2
encode-requires-2 g c = parents_and_kind c.args.def.now c.as_slice.result.now c.as_slice.ensures c.requires

pub returns : goal.returns
returns g c =
    let d = c.args.def.now in
    let ps = c.as_slice.result.now in
    let composite = (composite_inner_type (meaning.as_inner_type d.kind)).bytes in
    let some = ap (λ qs. length qs == 0) c.as_slice.ensures ∙ sym c.is_empty.ensures ∙ c.if-is_empty.false in
    sub_written g.S.Sink.rules c.args.out.now c.encode-2.new.out d ps _ c.encode-2.result c.as_slice.ensures
    (final_bytes meaning.index_value ps composite some ∙ ap (λ m. sub_bytes m (map meaning.index_value ps) composite) (c.if-not-unwrap_or.ensures
    ∙ final_is d.final_type)) c.encode-2.ensures
