-- The items and the modes of segments, as the section builders take them.
use native.Mathlib.Omega.{arith}
use Rattle.std.proofs.Common.{◌≡◌, ℕ, Bool, true, false, List, length, map, Result, inl, inr, refl, sym, ap, ◌∙◌, subst}
use Rattle.std.specs.Prelude.{All, Some, None, ◌&&◌}
use Rattle.std.specs.Global.{Vec}
use Rattle.std.proofs.lemmas.Grind.{common_steps}
use Rattle.std.proofs.lemmas.List.{length-map}
use Rattle.std.proofs.lemmas.List.Elements.{All-map}
use Rattle.wast_base.specs.declared.faults.Error.{Error}
use Rattle.wast_tree_nodes.specs.Clauses as tree
use Rattle.wast_tree_nodes.specs.Sites.{in_ref}
use Rattle.wasm_ops.specs.ConstExprs.{expression}
use Rattle.wasm_ops.specs.Spelling.{InRangeU32, vec, ref_type}
use Rattle.wasm_ops.specs.declared.sink.Refusal.{Refusal}
use Rattle.wasm_ops.specs.Sinks.{SinkRules, Writes}
use Rattle.wasm_ops.specs.Table.{Instr, instrs}
use Rattle.wasm_ops.specs.declared.ref_types.RefType.{RefType}
use Rattle.wasm_ops.proofs.Everywhere.{all_unmap}
use Rattle.wasm_ops.proofs.Sinking.{written_as}
use Rattle.wasm_out.specs.Built.{IsRefused}
use Rattle.wasm_out.specs.BuiltElements.{ended, segment_bytes, InRangeMode, is_form}
use Rattle.wasm_out.specs.ElementSegments.{kind_of, element_bytes, is_func, has_form, element_list, element_place, element_type}
use Rattle.wasm_out.specs.declared.elements.ElementKind.{ElementKind}
use Rattle.wasm_out.specs.declared.elements.ElementKind.TheVariants as kinds
use Rattle.wasm_out.specs.declared.elements.Elements.TheVariants as elements
use Rattle.wasm_out.specs.declared.elements.SegmentMode.{SegmentMode}
use Rattle.wasm_out.specs.declared.elements.SegmentMode.TheVariants as mode
use Rattle.wast_core_conv.specs.Tree as types
use Rattle.wast_core_conv.specs.Tree.{Expression, HeapType, ElemKind, ElemPayload}
use Rattle.wast_core_conv.specs.Tree.elem
use Rattle.wast_core_conv.specs.Tree.payload
use Rattle.wast_core_conv.specs.Encodable.{are_encodable}
use Rattle.wast_core_conv.specs.Segments.{AreExpressions, ArePayload, seen_mode}
use Rattle.wast_core_conv.specs.Meaning as meaning
use Rattle.wast_core_conv.proofs.Spelled.{vec_mapped}
use Rattle.wast_core_conv.proofs.TypesReady.{heap_covered}

-- ---- Items.

pub are_payload : (ty : types.RefType) (xs es : List Expression) (r : RefType) (v : Vec (List ℕ)) → are_encodable (in_ref ty) ≡ true
    → r ≡ meaning.as_ref_type ty → xs ≡ es → AreExpressions xs v.items → ArePayload (payload.Exprs ty es) (elements.Expressions r v)
are_payload ty xs es r v covered is same made =
    let value : v.items ≡ map (λ e. instrs (meaning.as_expression e)) es = made.value ∙ ap (map (λ e. instrs (meaning.as_expression e))) same in
    let counted : length (map meaning.as_expression es) ≡ length v.items = length-map es meaning.as_expression
    ∙ sym (ap length value ∙ length-map es (λ e. instrs (meaning.as_expression e))) in record {
      kind = ap kinds.Expressions is;
      list = ap (vec ended) value ∙ sym (vec_mapped ended (λ e. instrs (meaning.as_expression e)) es)
          ∙ vec_mapped (λ x. (expression x).bytes) meaning.as_expression es;
      ready = rw is (heap_covered ty.heap covered);
      in_range = λ h. (
        subst (λ x. (ref_type x).in_range) is h.0,
        (
          subst InRangeU32 (sym counted) h.1,
          All-map (λ x. (expression x).in_range) meaning.as_expression es
              (subst (All (λ e. (expression (meaning.as_expression e)).in_range)) same made.in_range),
        ),
      );
      built = λ h. (subst (λ x. (ref_type x).in_range) (sym is) h.0, subst InRangeU32 counted h.1.0);
    }

pub payload_refused : (ty : types.RefType) (xs es : List Expression) (e : Error) → xs ≡ es
    → IsRefused (All (λ x. (expression (meaning.as_expression x)).in_range) xs) e
    → IsRefused (element_list (meaning.as_element_items (payload.Exprs ty es))).in_range e
payload_refused ty xs es e same r =
    elim r [
      | inl m ↦ inl m
      | inr l ↦ inr (
        l.0,
        λ h. l.1 (subst (All (λ x. (expression (meaning.as_expression x)).in_range)) (sym same)
            (all_unmap (λ x. (expression x).in_range) meaning.as_expression es h.1)),
      )
    ]

-- ---- Modes.

pub mode_bytes : {O : Type 0} (f : O → List Instr) (m : SegmentMode O) (k : ElementKind) (list : List ℕ)
    → segment_bytes (λ o. (expression (f o)).bytes) m k list ≡ element_bytes (seen_mode f m) k list
mode_bytes f mode.Passive k list = refl
mode_bytes f x k list = refl

pub mode_in_range : {O : Type 0} (f : O → List Instr) (m : SegmentMode O) → InRangeMode (λ o. (expression (f o)).in_range) m
    → (element_place (seen_mode f m)).in_range
mode_in_range f mode.Passive h = h
mode_in_range f mode.Declared h = h
mode_in_range f (mode.Active table offset) h = h

pub range_of_mode : {O : Type 0} (f : O → List Instr) (m : SegmentMode O) → (element_place (seen_mode f m)).in_range
    → InRangeMode (λ o. (expression (f o)).in_range) m
range_of_mode f mode.Passive h = h
range_of_mode f mode.Declared h = h
range_of_mode f (mode.Active table offset) h = h

pub mode_form : {O : Type 0} (f : O → List Instr) (m : SegmentMode O) (k : ElementKind) → is_form m k ≡ has_form (seen_mode f m) k
mode_form f mode.Passive k = refl
mode_form f x k = refl

-- `funcref` becomes `funcref`.
heap_form : (h : HeapType) → tree.is_func_heap h ≡ true → is_func (meaning.as_heap_type h) ≡ true
heap_form h e = grind (arith, common_steps)

funcref_form : (b : Bool) (h : HeapType) → (b && tree.is_func_heap h) ≡ true → (b && is_func (meaning.as_heap_type h)) ≡ true
funcref_form true h e = heap_form h e
funcref_form false h e = absurd cc

pub suits_form : (k : ElemKind) (p : ElemPayload) → tree.is_segment_type_allowed k p ≡ true
    → has_form (meaning.as_element_mode k) (kind_of (meaning.as_element_items p)) ≡ true
suits_form (elem.Active (Some table) offset) p e = refl
suits_form (elem.Active None offset) (payload.Indices is) e = refl
suits_form (elem.Active None offset) (payload.Exprs ty es) e = funcref_form ty.nullable ty.heap e
suits_form x p e = refl

-- A segment, by its mode, its kind and the bytes of its list.
pub segment_written : {S A O : Type 0} (rules : SinkRules S) (a b : S) (f : O → List Instr) (m : SegmentMode O) (k : ElemKind) (p : ElemPayload)
    (kind : ElementKind) (InList : Type 0) (list : List ℕ) (r : Result A Refusal)
    → seen_mode f m ≡ meaning.as_element_mode k → kind ≡ kind_of (meaning.as_element_items p)
    → list ≡ (element_list (meaning.as_element_items p)).bytes → (InList → (element_list (meaning.as_element_items p)).in_range)
    → ((element_list (meaning.as_element_items p)).in_range → InList)
    → Writes rules (InRangeMode (λ o. (expression (f o)).in_range) m × ((element_type kind).in_range × InList)) a b
    (segment_bytes (λ o. (expression (f o)).bytes) m kind list) r
    → Writes rules ((element_place (meaning.as_element_mode k)).in_range × ((element_type (kind_of (meaning.as_element_items p))).in_range ×
    (element_list (meaning.as_element_items p)).in_range)) a b (element_bytes (meaning.as_element_mode k) (kind_of (meaning.as_element_items p))
    (element_list (meaning.as_element_items p)).bytes) r
segment_written rules a b f m k p kind InList list r same is are into back h =
    let items = meaning.as_element_items p in
    let stands = meaning.as_element_mode k in
    written_as rules (InRangeMode (λ o. (expression (f o)).in_range) m × ((element_type kind).in_range × InList))
    ((element_place stands).in_range × ((element_type (kind_of items)).in_range × (element_list items).in_range)) a b
    (segment_bytes (λ o. (expression (f o)).bytes) m kind list) (element_bytes stands (kind_of items) (element_list items).bytes) r
    (λ x. (subst (λ x. (element_place x).in_range) same (mode_in_range f m x.0), (subst (λ x. (element_type x).in_range) is x.1.0, into x.1.1)))
    (λ x. (range_of_mode f m (subst (λ x. (element_place x).in_range) (sym same) x.0), (subst (λ x. (element_type x).in_range) (sym is) x.1.0, back x.1.1)))
    (mode_bytes f m kind list ∙ ap (λ x. element_bytes x kind list) same ∙ ap (λ x. element_bytes stands x list) is
    ∙ ap (element_bytes stands (kind_of items)) are) h

-- The flags of a segment of this kind.
pub has_its_form : {O : Type 0} (f : O → List Instr) (m : SegmentMode O) (k : ElemKind) (p : ElemPayload) (kind : ElementKind)
    → seen_mode f m ≡ meaning.as_element_mode k → kind ≡ kind_of (meaning.as_element_items p) → tree.is_segment_type_allowed k p ≡ true → is_form m kind ≡ true
has_its_form f m k p kind same is e = mode_form f m kind ∙ ap (λ x. has_form x kind) same ∙ ap (has_form (meaning.as_element_mode k)) is ∙ suits_form k p e
