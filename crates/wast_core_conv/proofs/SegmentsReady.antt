-- Segments that may be encoded have supported instructions, and each block in their expressions is closed.
use Rattle.std.proofs.Common.{◌≡◌, true, ◌&&◌, List, refl}
use Rattle.std.specs.List.{list_all}
use Rattle.std.proofs.lemmas.List.Elements.{All-nil, All-map, All-append}
use Rattle.std.specs.Prelude.{All}
use Rattle.wast_base.specs.Ids.{is_number}
use Rattle.wast_tree_nodes.specs.Sites.{in_ref}
use Rattle.wast_tree_nodes.specs.Clauses.{is_segment_type_allowed}
use Rattle.wasm_ops.specs.ConstExprs.{HasRowsExpression, IsBalancedExpression, expression}
use Rattle.wasm_ops.proofs.Everywhere.{all_one}
use Rattle.wasm_out.specs.DataSegments.{data_place, data_expressions}
use Rattle.wasm_out.specs.ElementSegments.{kind_of, place_expressions, item_expressions, element_entry, element_list, element_place, element_type}
use Rattle.wasm_out.specs.Parts.{Elements}
use Rattle.wasm_out.specs.Readable.{expressions}
use Rattle.wast_core_conv.specs.Tree.{RefType, Expression, ElemKind, ElemPayload, Elem, DataKind}
use Rattle.wast_core_conv.specs.Tree.elem
use Rattle.wast_core_conv.specs.Tree.payload
use Rattle.wast_core_conv.specs.Tree.data_kind
use Rattle.wast_core_conv.specs.Encodable.{is_number_if, are_encodable, is_encodable_expression, is_encodable_elem_kind}
use Rattle.wast_core_conv.specs.Encodable.{is_encodable_payload, is_encodable_elem, is_encodable_data_kind}
use Rattle.wast_core_conv.specs.FieldEntries.{as_element_mode, as_element_items, as_data_mode}
use Rattle.wast_core_conv.specs.Meaning as meaning
use Rattle.wast_core_conv.proofs.EachPasses.{both_pass, both_true, each_becomes, each_has}
use Rattle.wast_core_conv.proofs.Expressions.{expression_covered, expression_balanced}
use Rattle.wast_core_conv.proofs.Rows.{expression_rows}
use Rattle.wast_core_conv.proofs.Segmented.{suits_form}
use Rattle.wast_core_conv.proofs.TypesReady.{heap_covered}

-- The parts of an element segment.
pub exprs_parts : (ty : RefType) (es : List Expression)
    → is_encodable_payload (payload.Exprs ty es) ≡ true → (are_encodable (in_ref ty) ≡ true) × (list_all is_encodable_expression es ≡ true)
exprs_parts ty es e = both_pass (are_encodable (in_ref ty)) (list_all is_encodable_expression es) e

pub record ElemParts (x : Elem) : Type 0 where
  pub stands : is_encodable_elem_kind x.kind ≡ true
  pub holds : is_encodable_payload x.payload ≡ true
  pub fits : is_segment_type_allowed x.kind x.payload ≡ true

pub elem_parts : (x : Elem) → is_encodable_elem x ≡ true → ElemParts x
elem_parts x e =
    let fits = both_pass (is_segment_type_allowed x.kind x.payload) (is_encodable_elem_kind x.kind && is_encodable_payload x.payload) e in
    let parts = both_pass (is_encodable_elem_kind x.kind) (is_encodable_payload x.payload) fits.1 in
    record { stands = parts.0; holds = parts.1; fits = fits.0 }

mode_covered : (k : ElemKind) → is_encodable_elem_kind k ≡ true → (element_place (as_element_mode k)).is_covered ≡ true
mode_covered elem.Passive e = refl
mode_covered elem.Declared e = refl
mode_covered (elem.Active table offset) e = expression_covered offset (both_pass (is_number_if table) (is_encodable_expression offset) e).1

kind_covered : (q : ElemPayload) → is_encodable_payload q ≡ true → (element_type (kind_of (as_element_items q))).is_covered ≡ true
kind_covered (payload.Indices is) e = refl
kind_covered (payload.Exprs ty es) e = heap_covered ty.heap (exprs_parts ty es e).0

items_covered : (q : ElemPayload) → is_encodable_payload q ≡ true → (element_list (as_element_items q)).is_covered ≡ true
items_covered (payload.Indices is) e = refl
items_covered (payload.Exprs ty es) e =
    each_becomes is_encodable_expression meaning.as_expression (λ x. (expression x).is_covered) expression_covered es (exprs_parts ty es e).1

pub elem_covered : (x : Elem) → is_encodable_elem x ≡ true → (element_entry (meaning.as_element x)).is_covered ≡ true
elem_covered x e =
    let parts = elem_parts x e in
    both_true _ _ (suits_form x.kind x.payload parts.fits)
    (both_true _ _ (mode_covered x.kind parts.stands) (both_true _ _ (kind_covered x.payload parts.holds) (items_covered x.payload parts.holds)))

mode_rows : (k : ElemKind) → is_encodable_elem_kind k ≡ true → All HasRowsExpression (place_expressions (as_element_mode k))
mode_rows elem.Passive e = All-nil HasRowsExpression
mode_rows elem.Declared e = All-nil HasRowsExpression
mode_rows (elem.Active table offset) e = all_one HasRowsExpression (meaning.as_expression offset)
    (expression_rows offset (both_pass (is_number_if table) (is_encodable_expression offset) e).1)

items_rows : (q : ElemPayload) → is_encodable_payload q ≡ true → All HasRowsExpression (item_expressions (as_element_items q))
items_rows (payload.Indices is) e = All-nil HasRowsExpression
items_rows (payload.Exprs ty es) e =
    All-map HasRowsExpression meaning.as_expression es
    (each_has is_encodable_expression (λ x. HasRowsExpression (meaning.as_expression x)) expression_rows es (exprs_parts ty es e).1)

pub elem_rows : (x : Elem) → is_encodable_elem x ≡ true → All HasRowsExpression (expressions Elements (meaning.as_element x))
elem_rows x e =
    let parts = elem_parts x e in
    All-append HasRowsExpression (place_expressions (as_element_mode x.kind)) (item_expressions (as_element_items x.payload))
    (mode_rows x.kind parts.stands) (items_rows x.payload parts.holds)

mode_balanced : (k : ElemKind) → is_encodable_elem_kind k ≡ true → All IsBalancedExpression (place_expressions (as_element_mode k))
mode_balanced elem.Passive e = All-nil IsBalancedExpression
mode_balanced elem.Declared e = All-nil IsBalancedExpression
mode_balanced (elem.Active table offset) e =
    all_one IsBalancedExpression (meaning.as_expression offset)
    (expression_balanced offset (both_pass (is_number_if table) (is_encodable_expression offset) e).1)

items_balanced : (q : ElemPayload) → is_encodable_payload q ≡ true → All IsBalancedExpression (item_expressions (as_element_items q))
items_balanced (payload.Indices is) e = All-nil IsBalancedExpression
items_balanced (payload.Exprs ty es) e =
    All-map IsBalancedExpression meaning.as_expression es
    (each_has is_encodable_expression (λ x. IsBalancedExpression (meaning.as_expression x)) expression_balanced es (exprs_parts ty es e).1)

pub elem_balanced : (x : Elem) → is_encodable_elem x ≡ true → All IsBalancedExpression (expressions Elements (meaning.as_element x))
elem_balanced x e =
    let parts = elem_parts x e in
    All-append IsBalancedExpression (place_expressions (as_element_mode x.kind)) (item_expressions (as_element_items x.payload))
    (mode_balanced x.kind parts.stands) (items_balanced x.payload parts.holds)

-- The same for data segments.
pub place_covered : (k : DataKind) → is_encodable_data_kind k ≡ true → (data_place (as_data_mode k)).is_covered ≡ true
place_covered data_kind.Passive e = refl
place_covered (data_kind.Active memory offset) e = expression_covered offset (both_pass (is_number memory) (is_encodable_expression offset) e).1

pub place_rows : (k : DataKind) → is_encodable_data_kind k ≡ true → All HasRowsExpression (data_expressions (as_data_mode k))
place_rows data_kind.Passive e = All-nil HasRowsExpression
place_rows (data_kind.Active memory offset) e = all_one HasRowsExpression (meaning.as_expression offset)
    (expression_rows offset (both_pass (is_number memory) (is_encodable_expression offset) e).1)

pub place_balanced : (k : DataKind) → is_encodable_data_kind k ≡ true → All IsBalancedExpression (data_expressions (as_data_mode k))
place_balanced data_kind.Passive e = All-nil IsBalancedExpression
place_balanced (data_kind.Active memory offset) e =
    all_one IsBalancedExpression (meaning.as_expression offset) (expression_balanced offset (both_pass (is_number memory) (is_encodable_expression offset) e).1)
