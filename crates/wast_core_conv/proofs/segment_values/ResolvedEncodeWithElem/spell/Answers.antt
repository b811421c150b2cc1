use Rattle.std.proofs.Common.{◌≡◌, true, refl, sym, ap, ◌∙◌, subst}
use Rattle.std.specs.List.{list_all}
use Rattle.wasm_ops.specs.ConstExprs.{expression}
use Rattle.wasm_ops.specs.Leb128.{unsigned}
use Rattle.wasm_ops.specs.Spelling.{InRangeU32, vec, InRangeVec, ref_type}
use Rattle.wasm_out.specs.declared.elements.ElementKind.TheVariants as kinds
use Rattle.wast_tree_nodes.specs.Clauses.{is_segment_type_allowed}
use Rattle.wast_base.specs.Ids.{is_number}
use Rattle.wast_core_conv.specs.Tree.payload
use Rattle.wast_core_conv.specs.Encodable.{is_encodable_expression, is_encodable_payload}
use Rattle.wast_core_conv.specs.Meaning as meaning
use Rattle.wast_core_conv.proofs.EachPasses.{both_true}
use Rattle.wast_core_conv.proofs.Segmented.{segment_written, has_its_form}
use Rattle.wast_core_conv.proofs.Spelled.{vec_mapped, in_range_mapped, in_range_unmapped}
use Rattle.wast_core_conv.proofs.SegmentsReady.{exprs_parts, elem_parts}
use Rattle.wast_core_conv.proofs.TypesReady.{heap_covered}
use Rattle.wast_core_conv.proofs.segment_values.ResolvedEncodeWithElem.spell.Goals as goal

pub encode-requires : goal.encode-requires
encode-requires g c =
    let e = c.args.elem.now in
    let fs = c.in-Indices.functions in
    let parts = elem_parts e c.requires in
    both_true _ _ (has_its_form (λ b. meaning.as_expression b.0.now) c.mode_of-mode.result e.kind
    (payload.Indices fs) kinds.Functions c.mode_of-mode.ensures.same refl (subst (λ p. is_segment_type_allowed e.kind p ≡ true) c.in-Indices.is parts.fits))
    (both_true _ _ c.mode_of-mode.ensures.ready (ap (list_all is_number) c.as_slice.ensures
    ∙ subst (λ p. is_encodable_payload p ≡ true) c.in-Indices.is parts.holds))

pub encode-requires-in-Exprs : goal.encode-requires-in-Exprs
encode-requires-in-Exprs g c =
    let e = c.args.elem.now in
    let ty = c.in-Exprs.ty in
    let es = c.in-Exprs.exprs in
    let parts = elem_parts e c.requires in
    let exprs = exprs_parts ty es (subst (λ p. is_encodable_payload p ≡ true) c.in-Exprs.is parts.holds) in
    both_true _ _ (has_its_form (λ b. meaning.as_expression b.0.now) c.mode_of-mode.result e.kind (payload.Exprs ty es)
    (kinds.Expressions c.ref_type.result) c.mode_of-mode.ensures.same (ap kinds.Expressions c.ref_type.ensures)
    (subst (λ p. is_segment_type_allowed e.kind p ≡ true) c.in-Exprs.is parts.fits))
    (both_true _ _ (ap (λ x. (ref_type x).is_covered) c.ref_type.ensures ∙ heap_covered ty.heap exprs.0)
    (both_true _ _ c.mode_of-mode.ensures.ready (ap (list_all is_encodable_expression) c.as_slice-in-Exprs.ensures ∙ exprs.1)))

pub returns-in-Indices : goal.returns-in-Indices
returns-in-Indices g c =
    let xs = c.as_slice.result.now in
    let fs = c.in-Indices.functions in
    rw c.in-Indices.is
    (segment_written g.S.Sink.rules c.args.out.now c.encode.new.out (λ b. meaning.as_expression b.0.now) c.mode_of-mode.result c.args.elem.now.kind
    (payload.Indices fs) kinds.Functions (InRangeVec (λ i. InRangeU32 (meaning.index_value i)) xs)
    (vec (λ i. unsigned (meaning.index_value i)) xs) c.encode.result c.mode_of-mode.ensures.same refl
    (ap (vec (λ i. unsigned (meaning.index_value i))) c.as_slice.ensures ∙ vec_mapped unsigned meaning.index_value fs)
    (λ h. in_range_mapped InRangeU32 meaning.index_value fs (subst (InRangeVec (λ i. InRangeU32 (meaning.index_value i))) c.as_slice.ensures h))
    (λ h. subst (InRangeVec (λ i. InRangeU32 (meaning.index_value i))) (sym c.as_slice.ensures)
    (in_range_unmapped InRangeU32 meaning.index_value fs h)) c.encode.ensures)

pub returns-in-Exprs : goal.returns-in-Exprs
returns-in-Exprs g c =
    let xs = c.as_slice-in-Exprs.result.now in
    let es = c.in-Exprs.exprs in
    rw c.in-Exprs.is
    (segment_written g.S.Sink.rules c.args.out.now c.encode-in-Exprs.new.out
    (λ b. meaning.as_expression b.0.now) c.mode_of-mode.result c.args.elem.now.kind (payload.Exprs c.in-Exprs.ty es)
    (kinds.Expressions c.ref_type.result) (InRangeVec (λ e. (expression (meaning.as_expression e)).in_range) xs)
    (vec (λ e. (expression (meaning.as_expression e)).bytes) xs) c.encode-in-Exprs.result c.mode_of-mode.ensures.same
    (ap kinds.Expressions c.ref_type.ensures)
    (ap (vec (λ e. (expression (meaning.as_expression e)).bytes)) c.as_slice-in-Exprs.ensures ∙ vec_mapped (λ x. (expression x).bytes) meaning.as_expression es)
    (λ h. in_range_mapped (λ x. (expression x).in_range) meaning.as_expression es
    (subst (InRangeVec (λ e. (expression (meaning.as_expression e)).in_range)) c.as_slice-in-Exprs.ensures h))
    (λ h. subst (InRangeVec (λ e. (expression (meaning.as_expression e)).in_range)) (sym c.as_slice-in-Exprs.ensures)
    (in_range_unmapped (λ x. (expression x).in_range) meaning.as_expression es h)) c.encode-in-Exprs.ensures)
