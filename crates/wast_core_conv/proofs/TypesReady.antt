-- Types that may be encoded become supported values, and the parts of a resolved type are resolved.
use Rattle.std.proofs.Common.{◌≡◌, Bool, true, false, ◌&&◌, List, [], ◌∷◌, map, refl, sym, ◌∙◌}
use Rattle.std.specs.Prelude.{not, is_none, Option, Some, None, option_map}
use Rattle.std.specs.List.{flat_map, list_all}
use Rattle.wast_base.specs.Ids.{is_number}
use Rattle.wast_tree_nodes.specs.Sites.{Check, Covered, is_continuation, is_sequential, check_sites, if_there, in_index, in_heap, in_val}
use Rattle.wast_tree_nodes.specs.Sites.{in_select, in_storage, in_param, in_signature, OfBlock, Used, in_type_use, in_use, in_struct_field}
use Rattle.wast_tree_nodes.specs.Sites.{in_descriptor, in_inner, in_def, in_type, in_rec, in_local}
use Rattle.wast_tree_nodes.specs.Resolved.{are_numbered}
use Rattle.wasm_ops.specs.CastInstrs.{fence_instr}
use Rattle.wasm_ops.specs.Control.{block_type}
use Rattle.wasm_ops.specs.Memargs.{is_covered_ordering}
use Rattle.wasm_ops.specs.SelectInstrs.{select_instr}
use Rattle.wasm_ops.specs.Table.{instr}
use Rattle.wast_core_conv.specs.Tree.{Id, Index, NameAnnotation, AbstractHeapType, HeapType, ValType, StorageType, StructField}
use Rattle.wast_core_conv.specs.Tree.{FunctionType, BlockType, InnerTypeKind, TypeDef, Rec, Ordering, SelectTypes, Local}
use Rattle.wast_core_conv.specs.Tree.abstract
use Rattle.wast_core_conv.specs.Tree.form
use Rattle.wast_core_conv.specs.Tree.heap
use Rattle.wast_core_conv.specs.Tree.ordering
use Rattle.wast_core_conv.specs.Tree.inner
use Rattle.wast_core_conv.specs.Tree.space
use Rattle.wast_core_conv.specs.Tree.storage
use Rattle.wast_core_conv.specs.Tree.value as val
use Rattle.wast_core_conv.specs.Encodable.{is_number_if, is_encodable_ask, are_encodable, is_encodable_site, encodable, is_encodable_type}
use Rattle.wast_core_conv.specs.Values.{short_block_type, short_type, use_as_block}
use Rattle.wast_core_conv.specs.Meaning as meaning
use Rattle.wast_core_conv.proofs.EachPasses.{both_pass, both_true, both_lists, each_passes, each_becomes}
use Rattle.wasm_ops.specs.Spelling.{composite_inner_type, field_type, heap_type, is_covered_abstract_heap_type, storage_type, sub_type, val_type}
use Rattle.wast_core_conv.proofs.Standing.{behind_id}

-- ---- The parts of what passes.

pub signature_parts : (p : Check → Bool) (t : FunctionType)
    → list_all p (in_signature t) ≡ true → (list_all (λ q. list_all p (in_param q)) t.params ≡ true) × (list_all (λ v. list_all p (in_val v)) t.results ≡ true)
signature_parts p t h =
    let both = both_lists p (flat_map in_param t.params) (flat_map in_val t.results) h in
    (sym (each_passes p in_param t.params) ∙ both.0, sym (each_passes p in_val t.results) ∙ both.1)

pub record DefParts (p : Check → Bool) (d : TypeDef) : Type 0 where
  pub parents : list_all p (flat_map (in_index space.Ty) d.parents) ≡ true
  pub descriptor : list_all p (if_there in_descriptor d.descriptor) ≡ true
  pub describes : list_all p (if_there in_descriptor d.describes) ≡ true
  pub kind : list_all p (in_inner d.kind) ≡ true
  pub shared : list_all p (Covered form.Shared (not d.shared) ∷ []) ≡ true

pub def_parts : (p : Check → Bool) (d : TypeDef) → list_all p (in_def d) ≡ true → DefParts p d
def_parts p d h =
    let parents = both_lists p (flat_map (in_index space.Ty) d.parents) _ h in
    let descriptor = both_lists p (if_there in_descriptor d.descriptor) _ parents.1 in
    let describes = both_lists p (if_there in_descriptor d.describes) _ descriptor.1 in
    let kind = both_lists p (in_inner d.kind) _ describes.1 in
    record { parents = parents.0; descriptor = descriptor.0; describes = describes.0; kind = kind.0; shared = kind.1 }

-- The type in a `descriptor` or `describes` clause.
pub number_of : (o : Option Index) → are_numbered (if_there in_descriptor o) ≡ true → is_number_if o ≡ true
number_of None h = refl
number_of (Some i) h = (both_pass (is_number i) _ h).0

-- ---- What may be encoded becomes a supported value.

abstract_covered : (ty : AbstractHeapType) → not (is_continuation ty) ≡ true → is_covered_abstract_heap_type (meaning.as_abstract_type ty) ≡ true
abstract_covered abstract.Cont e = e
abstract_covered abstract.NoCont e = e
abstract_covered ty e = refl

pub heap_covered : (h : HeapType) → are_encodable (in_heap h) ≡ true → (heap_type (meaning.as_heap_type h)).is_covered ≡ true
heap_covered (heap.Abstract false ty) e = abstract_covered ty (both_pass (not (is_continuation ty)) true e).0
heap_covered (heap.Abstract true ty) e = e
heap_covered (heap.Concrete i) e = refl
heap_covered (heap.Exact i) e = (both_pass (is_number i) false e).1

pub val_covered : (t : ValType) → are_encodable (in_val t) ≡ true → (val_type (meaning.as_val_type t)).is_covered ≡ true
val_covered (val.Ref r) e = heap_covered r.heap e
val_covered t e = refl

-- The types of `select`.
select_all : (ts : List ValType) → are_encodable (flat_map in_val ts) ≡ true → list_all (λ x. (val_type x).is_covered) (map meaning.as_val_type ts) ≡ true
select_all ts e = each_becomes (λ v. are_encodable (in_val v)) meaning.as_val_type (λ x. (val_type x).is_covered) val_covered ts
    (sym (each_passes is_encodable_ask in_val ts) ∙ e)

pub select_covered : (t : SelectTypes) → are_encodable (in_select t) ≡ true
    → (instr (select_instr (option_map (map meaning.as_val_type) t.tys))).is_covered ≡ true
select_covered t e = of_types t.tys e
  where
    of_types : (o : Option (List ValType)) → are_encodable (if_there (flat_map in_val) o) ≡ true
        → (instr (select_instr (option_map (map meaning.as_val_type) o))).is_covered ≡ true
    of_types None e = refl
    of_types (Some ts) e = both_true _ true (select_all ts e) refl

-- The ordering of a fence.
pub sequential_covered : (o : Option Ordering) → is_sequential o ≡ true → is_covered_ordering (meaning.fence_ordering o) ≡ true
sequential_covered None e = refl
sequential_covered (Some ordering.SeqCst) e = refl
sequential_covered (Some ordering.AcqRel) e = e

pub fence_covered : (o : Option Ordering) → encodable (check_sites (Covered form.Ordering (is_sequential o) ∷ [])) ≡ true
    → (instr (fence_instr (meaning.fence_ordering o))).is_covered ≡ true
fence_covered o e = both_true _ true (sequential_covered o (both_pass (is_sequential o) true e).0) refl

-- The type of a block: a type index, or at most one result.
given_covered : (ts : List ValType) → list_all (λ v. are_encodable (in_val v)) ts ≡ true → (block_type (short_block_type ts)).is_covered ≡ true
given_covered [] e = refl
given_covered (t ∷ ts) e = val_covered t (both_pass (are_encodable (in_val t)) _ e).0

short_covered : (o : Option FunctionType) → are_encodable (if_there in_signature o) ≡ true → (block_type (short_type o)).is_covered ≡ true
short_covered None e = refl
short_covered (Some t) e = given_covered t.results (signature_parts is_encodable_ask t e).1

use_covered : (index : Option Index) (inline : Option FunctionType) → are_encodable (if_there in_signature inline) ≡ true
    → (block_type (use_as_block index inline)).is_covered ≡ true
use_covered (Some i) inline e = refl
use_covered None inline e = short_covered inline e

pub block_covered : (b : BlockType) → encodable (in_use OfBlock b.ty) ≡ true → (block_type (meaning.as_block_type b)).is_covered ≡ true
block_covered b e =
    let asks = (both_pass _ (are_encodable (in_type_use b.ty)) (both_pass (is_encodable_site (Used OfBlock b.ty)) true e).0).1 in
    use_covered b.ty.index b.ty.inline (both_lists is_encodable_ask (if_there (in_index space.Ty) b.ty.index) _ asks).1

pub storage_covered : (t : StorageType) → are_encodable (in_storage t) ≡ true → (storage_type (meaning.as_storage_type t)).is_covered ≡ true
storage_covered (storage.Val t) e = val_covered t e
storage_covered t e = refl

param_covered : (p : Option Id × Option NameAnnotation × ValType) → are_encodable (in_param p) ≡ true → (val_type (meaning.as_val_type p.2)).is_covered ≡ true
param_covered p e = val_covered p.2 (sym (behind_id p.0 (in_val p.2)) ∙ e)

field_covered : (f : StructField) → are_encodable (in_struct_field f) ≡ true → (field_type (meaning.as_field_type f)).is_covered ≡ true
field_covered f e = storage_covered f.ty (sym (behind_id f.id (in_storage f.ty)) ∙ e)

inner_covered : (t : InnerTypeKind) → are_encodable (in_inner t) ≡ true → (composite_inner_type (meaning.as_inner_type t)).is_covered ≡ true
inner_covered (inner.Func t) e =
    let a = signature_parts is_encodable_ask t e in
    both_true (list_all (λ x. (val_type x).is_covered) (map (λ p. meaning.as_val_type p.2) t.params))
    (list_all (λ x. (val_type x).is_covered) (map meaning.as_val_type t.results))
    (each_becomes (λ p. are_encodable (in_param p)) (λ p. meaning.as_val_type p.2) (λ x. (val_type x).is_covered) param_covered t.params a.0)
    (each_becomes (λ v. are_encodable (in_val v)) meaning.as_val_type (λ x. (val_type x).is_covered) val_covered t.results a.1)
inner_covered (inner.Struct t) e =
    each_becomes (λ f. are_encodable (in_struct_field f)) meaning.as_field_type (λ x. (field_type x).is_covered) field_covered t.fields
    (sym (each_passes is_encodable_ask in_struct_field t.fields) ∙ e)
inner_covered (inner.Array t) e = storage_covered t.ty e
inner_covered (inner.Cont t) e = (both_pass (is_number t.0) false e).1

no_descriptor : (o : Option Index) → are_encodable (if_there in_descriptor o) ≡ true → is_none (option_map meaning.index_value o) ≡ true
no_descriptor None e = refl
no_descriptor (Some i) e = absurd (no_form (is_number i) e)
  where
    no_form : (b : Bool) → (b && false) ≡ true → ⊥
    no_form true e = cc
    no_form false e = cc

pub def_covered : (d : TypeDef) → are_encodable (in_def d) ≡ true → (sub_type (meaning.as_sub_type d)).is_covered ≡ true
def_covered d e =
    let parts = def_parts is_encodable_ask d e in
    both_true _ (composite_inner_type (meaning.as_inner_type d.kind)).is_covered
    (both_true (not d.shared) _ (both_pass (not d.shared) true parts.shared).0
    (both_true _ _ (no_descriptor d.descriptor parts.descriptor) (no_descriptor d.describes parts.describes)))
    (inner_covered d.kind parts.kind)

-- ---- What a function or a recursion group becomes.

pub local_covered : (l : Local) → are_encodable (in_local l) ≡ true → (val_type (meaning.as_val_type l.ty)).is_covered ≡ true
local_covered l e = val_covered l.ty (both_lists is_encodable_ask (in_val l.ty) _ e).0

pub locals_covered : (ls : List Local)
    → list_all (λ l. are_encodable (in_local l)) ls ≡ true → list_all (λ x. (val_type x).is_covered) (map (λ l. meaning.as_val_type l.ty) ls) ≡ true
locals_covered ls e = each_becomes (λ l. are_encodable (in_local l)) (λ l. meaning.as_val_type l.ty) (λ x. (val_type x).is_covered) local_covered ls e

pub types_covered : (r : Rec) → are_encodable (in_rec r) ≡ true → list_all (λ x. (sub_type x).is_covered) (map (λ t. meaning.as_sub_type t.def) r.types) ≡ true
types_covered r e =
    each_becomes is_encodable_type (λ t. meaning.as_sub_type t.def) (λ x. (sub_type x).is_covered) (λ t h. def_covered t.def h) r.types
    (sym (each_passes is_encodable_ask in_type r.types) ∙ e)
