-- Each part of a type is determined by its indices and the rest of it.
use Rattle.std.proofs.Common.{◌≡◌, refl, length, map, arith, Option}
use Rattle.std.specs.Prelude.{Bool, not}
use Rattle.std.proofs.lemmas.Grind.{common_steps}
use Rattle.wast_resolve_core_types.specs.Tree.{Id, Span, NameAnnotation, RefType, HeapType, ValType, StorageType, StructField, StructType}
use Rattle.wast_resolve_core_types.specs.Tree.{ArrayType, FunctionType, InnerTypeKind, TypeDef}
use Rattle.wast_resolve_core_types.specs.Tree.ty
use Rattle.wast_resolve_core_types.specs.Tree.space
use Rattle.wast_resolve_core_types.specs.Tree.inner
use Rattle.wast_resolve_core_types.specs.Tree.form
use Rattle.wast_tree_nodes.specs.Sites.{in_heap, in_ref, in_val, in_storage, in_param, in_signature, in_struct_field, in_struct, in_array}
use Rattle.wast_tree_nodes.specs.Sites.{in_inner, in_def, in_type}
use Rattle.wast_tree_map.specs.Mapped.{Indices, mapped_heap, mapped_ref, mapped_val, mapped_storage, mapped_param, mapped_signature}
use Rattle.wast_tree_map.specs.Mapped.{mapped_struct_field, mapped_struct, mapped_array, mapped_inner, mapped_def}
use Rattle.wast_resolve_core_types.specs.CoreTypes.{indices_of, blank, with_def}
use Rattle.wast_resolve_core_types.proofs.TypeParts.{IsTypePart, as_type, const_part, id_part, index_part, descriptor_part, form_part}
use Rattle.wast_resolve_core_types.proofs.TypeParts.{both_part, part_as, list_part, option_part}

heap_typed : (x : HeapType) → map as_type (in_heap x) ≡ in_heap x
heap_typed x = grind (arith, common_steps)

heap_many : (x y : HeapType) → mapped_heap blank y ≡ mapped_heap blank x → length (indices_of (in_heap y)) ≡ length (indices_of (in_heap x))
heap_many x y h = grind (arith, common_steps)

heap_same : (f : Indices) (x y : HeapType) → mapped_heap blank y ≡ mapped_heap blank x
    → indices_of (in_heap y) ≡ map (f space.Ty) (indices_of (in_heap x)) → y ≡ mapped_heap f x
heap_same f x y h k = grind (arith, common_steps)

pub heap_part : IsTypePart in_heap mapped_heap
heap_part = record { typed = heap_typed; many = heap_many; same = heap_same }

pub ref_part : IsTypePart in_ref mapped_ref
ref_part = part_as (λ (r : RefType). (r.nullable, r.heap)) mapped_ref (both_part (const_part {T = Bool}) heap_part) (λ f r. refl)
    (λ x y h i. record { nullable = (h i).0; heap = (h i).1 })

val_typed : (x : ValType) → map as_type (in_val x) ≡ in_val x
val_typed x = grind (arith, common_steps, ref_part.typed)

val_many : (x y : ValType) → mapped_val blank y ≡ mapped_val blank x → length (indices_of (in_val y)) ≡ length (indices_of (in_val x))
val_many x y h = grind (arith, common_steps, ref_part.many)

val_same : (f : Indices) (x y : ValType) → mapped_val blank y ≡ mapped_val blank x → indices_of (in_val y) ≡ map (f space.Ty) (indices_of (in_val x))
    → y ≡ mapped_val f x
val_same f x y h k = grind (arith, common_steps, ref_part.same)

pub val_part : IsTypePart in_val mapped_val
val_part = record { typed = val_typed; many = val_many; same = val_same }

storage_typed : (x : StorageType) → map as_type (in_storage x) ≡ in_storage x
storage_typed x = grind (arith, common_steps, val_typed)

storage_many : (x y : StorageType) → mapped_storage blank y ≡ mapped_storage blank x → length (indices_of (in_storage y)) ≡ length (indices_of (in_storage x))
storage_many x y h = grind (arith, common_steps, val_many)

storage_same : (f : Indices) (x y : StorageType) → mapped_storage blank y ≡ mapped_storage blank x
    → indices_of (in_storage y) ≡ map (f space.Ty) (indices_of (in_storage x)) → y ≡ mapped_storage f x
storage_same f x y h k = grind (arith, common_steps, val_same)

pub storage_part : IsTypePart in_storage mapped_storage
storage_part = record { typed = storage_typed; many = storage_many; same = storage_same }

param_part : IsTypePart in_param mapped_param
param_part =
    part_as (λ (x : Option Id × Option NameAnnotation × ValType). (x.0, (x.1, x.2))) mapped_param
    (both_part id_part (both_part (const_part {T = Option NameAnnotation}) val_part)) (λ f x. refl)
    (λ x y h i. ((h i).0, (h i).1.0, (h i).1.1))

pub signature_part : IsTypePart in_signature mapped_signature
signature_part = part_as (λ (t : FunctionType). (t.params, t.results)) mapped_signature (both_part (list_part param_part) (list_part val_part))
    (λ f t. refl) (λ x y h i. record { params = (h i).0; results = (h i).1 })

struct_field_part : IsTypePart in_struct_field mapped_struct_field
struct_field_part =
    part_as (λ (t : StructField). (t.id, ((t.name, t.mutable), t.ty))) mapped_struct_field
    (both_part id_part (both_part (const_part {T = Option NameAnnotation × Bool}) storage_part)) (λ f t. refl)
    (λ x y h i. record { id = (h i).0; name = (h i).1.0.0; mutable = (h i).1.0.1; ty = (h i).1.1 })

struct_part : IsTypePart in_struct mapped_struct
struct_part = part_as (λ (t : StructType). t.fields) mapped_struct (list_part struct_field_part) (λ f t. refl) (λ x y h i. record { fields = h i })

array_part : IsTypePart in_array mapped_array
array_part = part_as (λ (t : ArrayType). (t.mutable, t.ty)) mapped_array (both_part (const_part {T = Bool}) storage_part) (λ f t. refl)
    (λ x y h i. record { mutable = (h i).0; ty = (h i).1 })

inner_typed : (x : InnerTypeKind) → map as_type (in_inner x) ≡ in_inner x
inner_typed (inner.Func t) = signature_part.typed t
inner_typed (inner.Struct t) = struct_part.typed t
inner_typed (inner.Array t) = array_part.typed t
inner_typed (inner.Cont t) = refl

inner_many : (x y : InnerTypeKind) → mapped_inner blank y ≡ mapped_inner blank x → length (indices_of (in_inner y)) ≡ length (indices_of (in_inner x))
inner_many x y h = grind (arith, common_steps, signature_part.many, struct_part.many, array_part.many)

inner_same : (f : Indices) (x y : InnerTypeKind) → mapped_inner blank y ≡ mapped_inner blank x
    → indices_of (in_inner y) ≡ map (f space.Ty) (indices_of (in_inner x)) → y ≡ mapped_inner f x
inner_same f x y h k = grind (arith, common_steps, signature_part.same, struct_part.same, array_part.same)

inner_part : IsTypePart in_inner mapped_inner
inner_part = record { typed = inner_typed; many = inner_many; same = inner_same }

pub def_part : IsTypePart in_def mapped_def
def_part =
    part_as (λ (d : TypeDef). (d.parents, (d.descriptor, (d.describes, (d.kind, (d.final_type, d.shared)))))) mapped_def
    (both_part (list_part index_part)
    (both_part (option_part descriptor_part)
    (both_part (option_part descriptor_part) (both_part inner_part (both_part (const_part {T = Option Bool}) (form_part form.Shared not)))))) (λ f d. refl)
    (λ x y h i. record {
      kind = (h i).1.1.1.0;
      shared = (h i).1.1.1.1.1;
      parents = (h i).0;
      descriptor = (h i).1.0;
      describes = (h i).1.1.0;
      final_type = (h i).1.1.1.1.0;
    })

pub type_part : IsTypePart in_type with_def
type_part =
    part_as (λ (t : ty.«Type»). ((t.span, t.id, t.name), t.def)) with_def
    (both_part (const_part {T = Span × Option Id × Option NameAnnotation}) def_part) (λ f t. refl)
    (λ x y h i. record { span = (h i).0.0; id = (h i).0.1; name = (h i).0.2; def = (h i).1 })
