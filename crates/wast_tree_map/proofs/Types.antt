-- The theorems of maps at each type.
use Rattle.std.specs.Prelude.{Option, not, []}
use Rattle.std.proofs.Common.{List, ◌∷◌, refl}
use Rattle.wast_tree_map.specs.Tree.{Id, Index, NameAnnotation, HeapType, RefType, ValType, StorageType, StructField, StructType, ArrayType}
use Rattle.wast_tree_map.specs.Tree.{FunctionType, InnerTypeKind, TypeDef, Rec, TableType, GlobalType, TagType}
use Rattle.wast_tree_map.specs.Tree.form
use Rattle.wast_tree_map.specs.Tree.space
use Rattle.wast_tree_map.specs.Tree.heap
use Rattle.wast_tree_map.specs.Tree.value
use Rattle.wast_tree_map.specs.Tree.storage
use Rattle.wast_tree_map.specs.Tree.inner
use Rattle.wast_tree_map.specs.Tree.ty
use Rattle.wast_tree_map.specs.Tree.tag
use Rattle.wast_tree_nodes.specs.Sites.{OfItem, Covered, uncovered_check, in_heap, in_ref, in_val, in_storage, in_param, in_signature}
use Rattle.wast_tree_nodes.specs.Sites.{in_struct_field, in_struct, in_array, in_inner, in_descriptor, in_def, in_type, in_rec}
use Rattle.wast_tree_nodes.specs.Sites.{in_table_type, in_global_type, in_tag_type}
use Rattle.wast_tree_map.specs.Mapped.{mapped_heap, mapped_ref, mapped_val, mapped_storage, named_param, named_signature}
use Rattle.wast_tree_map.specs.Mapped.{named_struct_field, named_struct, mapped_array, named_inner, named_def, mapped_type, mapped_rec}
use Rattle.wast_tree_map.specs.Mapped.{mapped_table_type, mapped_global_type, mapped_tag_type}
use Rattle.wast_tree_map.proofs.Ways.{In, At, index_in, mark_in, item_id_at, use_at, fixed_at, both_at, made_at, tested_at, option_at, list_at}

pub heap_at : (t : HeapType) → In in_heap (λ f. mapped_heap f.index) t
heap_at (heap.Abstract shared ty) = fixed_at (heap.Abstract shared ty) (λ f. refl) (λ n f. refl)
heap_at (heap.Concrete i) = made_at heap.Concrete (λ y. refl) (λ f y. refl) i (index_in space.Ty i)
heap_at (heap.Exact i) = made_at heap.Exact (λ y. refl) (λ f y. refl) i (tested_at i (uncovered_check form.Descriptor) (λ n f. refl) (index_in space.Ty i))

pub ref_at : (r : RefType) → In in_ref (λ f. mapped_ref f.index) r
ref_at r = made_at (λ (t : HeapType). record r { heap = t }) (λ y. refl) (λ f y. refl) r.heap (heap_at r.heap)

pub val_at : (t : ValType) → In in_val (λ f. mapped_val f.index) t
val_at (value.Ref r) = made_at value.Ref (λ y. refl) (λ f y. refl) r (ref_at r)
val_at t = fixed_at t (λ f. refl) (λ n f. refl)

storage_at : (t : StorageType) → In in_storage (λ f. mapped_storage f.index) t
storage_at (storage.Val t) = made_at storage.Val (λ y. refl) (λ f y. refl) t (val_at t)
storage_at t = fixed_at t (λ f. refl) (λ n f. refl)

param_at : (p : Option Id × Option NameAnnotation × ValType) → In in_param (λ f. named_param f.own f.index) p
param_at p = made_at (λ (q : Option Id × ValType). (q.0, p.1, q.1)) (λ y. refl) (λ f y. refl) (p.0, p.2) (both_at p.0 p.2 (mark_in p.0) (val_at p.2))

pub signature_at : (t : FunctionType) → In in_signature (λ f. named_signature f.own f.index) t
signature_at t =
    made_at (λ (q : List (Option Id × Option NameAnnotation × ValType) × List ValType). record { params = q.0; results = q.1 }) (λ y. refl)
    (λ f y. refl) (t.params, t.results)
    (both_at t.params t.results (list_at param_at t.params) (list_at val_at t.results))

struct_field_at : (x : StructField) → In in_struct_field (λ f. named_struct_field f.own f.index) x
struct_field_at x = made_at (λ (q : Option Id × StorageType). record x { id = q.0; ty = q.1 }) (λ y. refl) (λ f y. refl) (x.id, x.ty)
    (both_at x.id x.ty (mark_in x.id) (storage_at x.ty))

struct_at : (t : StructType) → In in_struct (λ f. named_struct f.own f.index) t
struct_at t = made_at (λ (fs : List StructField). record { fields = fs }) (λ y. refl) (λ f y. refl) t.fields (list_at struct_field_at t.fields)

array_at : (t : ArrayType) → In in_array (λ f. mapped_array f.index) t
array_at t = made_at (λ (u : StorageType). record t { ty = u }) (λ y. refl) (λ f y. refl) t.ty (storage_at t.ty)

inner_at : (t : InnerTypeKind) → In in_inner (λ f. named_inner f.own f.index) t
inner_at (inner.Func t) = made_at inner.Func (λ y. refl) (λ f y. refl) t (signature_at t)
inner_at (inner.Struct t) = made_at inner.Struct (λ y. refl) (λ f y. refl) t (struct_at t)
inner_at (inner.Array t) = made_at inner.Array (λ y. refl) (λ f y. refl) t (array_at t)
inner_at (inner.Cont t) = made_at (λ (i : Index). inner.Cont (record { 0 = i })) (λ y. refl)
    (λ f y. refl) t.0 (tested_at t.0 (uncovered_check form.StackSwitching) (λ n f. refl) (index_in space.Ty t.0))

descriptor_at : (i : Index) → In in_descriptor (λ f i. f.index space.Ty i) i
descriptor_at i = record { stands = λ n f k. refl; joins = λ n h g f j e. e.0; still = refl }

def_at : (d : TypeDef) → In in_def (λ f. named_def f.own f.index) d
def_at d =
    made_at (λ (q : List Index × (Option Index × (Option Index × InnerTypeKind))). record d {
      parents = q.0;
      descriptor = q.1.0;
      describes = q.1.1.0;
      kind = q.1.1.1;
    }) (λ y. refl) (λ f y. refl)
    (d.parents, (d.descriptor, (d.describes, d.kind)))
    (both_at d.parents (d.descriptor, (d.describes, d.kind)) (list_at (index_in space.Ty) d.parents)
    (both_at d.descriptor (d.describes, d.kind) (option_at descriptor_at d.descriptor)
    (both_at d.describes d.kind (option_at descriptor_at d.describes) (tested_at d.kind (Covered form.Shared (not d.shared) ∷ []) (λ n f. refl)
    (inner_at d.kind)))))

pub type_at : (t : ty.«Type») → In in_type mapped_type t
type_at t = made_at (λ (q : Option Id × TypeDef). record t { id = q.0; def = q.1 }) (λ y. refl) (λ f y. refl) (t.id, t.def)
    (both_at t.id t.def (item_id_at t.id) (def_at t.def))

pub rec_at : (r : Rec) → In in_rec mapped_rec r
rec_at r = made_at (λ (ts : List ty.«Type»). record r { types = ts }) (λ y. refl) (λ f y. refl) r.types (list_at type_at r.types)

pub table_type_at : (t : TableType) → In in_table_type (λ f. mapped_table_type f.index) t
table_type_at t = made_at (λ (r : RefType). record t { elem = r }) (λ y. refl) (λ f y. refl) t.elem
    (tested_at t.elem (Covered form.Shared (not t.shared) ∷ []) (λ n f. refl) (ref_at t.elem))

pub global_type_at : (t : GlobalType) → In in_global_type (λ f. mapped_global_type f.index) t
global_type_at t = made_at (λ (u : ValType). record t { ty = u }) (λ y. refl) (λ f y. refl) t.ty
    (tested_at t.ty (Covered form.Shared (not t.shared) ∷ []) (λ n f. refl) (val_at t.ty))

pub tag_type_at : (t : TagType) → At in_tag_type mapped_tag_type t
tag_type_at (tag.Exception u) = made_at tag.Exception (λ y. refl) (λ f y. refl) u (use_at OfItem u)
