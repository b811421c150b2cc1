-- What is read of a type does not change, if each index in it has the same number.
use Rattle.std.proofs.Common.{◌≡◌, List, [], ◌∷◌, map, Option, Some, None, option_map, refl, ap, arith}
use Rattle.std.proofs.lemmas.Grind.{common_steps}
use Rattle.wast_tree_map.specs.Mapped.{Ids, Indices, mapped_heap, mapped_ref, mapped_val, mapped_storage, named_param, named_struct_field}
use Rattle.wast_tree_map.specs.Mapped.{named_inner, named_def, mapped_table_type, mapped_global_type}
use Rattle.wasm_ops.specs.declared.types.CompositeInnerType.TheVariants as composite
use Rattle.wast_core.specs.Tree.{Id, Index, Space, NameAnnotation, HeapType, RefType, ValType, StorageType, StructField, InnerTypeKind}
use Rattle.wast_core.specs.Tree.{TypeDef, TableType, GlobalType}
use Rattle.wast_core.specs.Tree.inner
use Rattle.wast_core.specs.Tree.space
use Rattle.wast_core_conv.specs.Values.{index_value, as_heap_type, as_ref_type, as_val_type, as_storage_type, as_field_type, as_inner_type}
use Rattle.wast_core_conv.specs.Values.{as_sub_type, as_table_type, as_global_type}

-- What is read of each element of a list.
pub each_alike : {A B : Type 0} (f : A → A) (g : A → B) → ((x : A) → g (f x) ≡ g x) → (xs : List A) → map g (map f xs) ≡ map g xs
each_alike f g same [] = refl
each_alike f g same (x ∷ xs) = λ i. same x i ∷ each_alike f g same xs i

pub option_alike : {A B : Type 0} (f : A → A) (g : A → B) → ((x : A) → g (f x) ≡ g x) → (o : Option A) → option_map g (option_map f o) ≡ option_map g o
option_alike f g same None = refl
option_alike f g same (Some x) = ap Some (same x)

module _ (f : Indices) (reads : (s : Space) (i : Index) → index_value (f s i) ≡ index_value i) where
  index_told : (s : Space) (i : Index) → index_value (f s i) ≡ index_value i
  index_told s i = reads s i

  pub heap_told : (x : HeapType) → as_heap_type (mapped_heap f x) ≡ as_heap_type x
  heap_told x = grind (arith, common_steps, index_told)

  pub ref_told : (x : RefType) → as_ref_type (mapped_ref f x) ≡ as_ref_type x
  ref_told x = grind (arith, common_steps, heap_told)

  pub val_told : (x : ValType) → as_val_type (mapped_val f x) ≡ as_val_type x
  val_told x = grind (arith, common_steps, ref_told)

  pub vals_told : (ts : List ValType) → map as_val_type (map (mapped_val f) ts) ≡ map as_val_type ts
  vals_told ts = each_alike (mapped_val f) as_val_type val_told ts

  pub table_type_told : (x : TableType) → as_table_type (mapped_table_type f x) ≡ as_table_type x
  table_type_told x = grind (arith, common_steps, ref_told)

  pub global_type_told : (x : GlobalType) → as_global_type (mapped_global_type f x) ≡ as_global_type x
  global_type_told x = grind (arith, common_steps, val_told)

  storage_told : (x : StorageType) → as_storage_type (mapped_storage f x) ≡ as_storage_type x
  storage_told x = grind (arith, common_steps, val_told)

  types_told : (is : List Index) → map index_value (map (f space.Ty) is) ≡ map index_value is
  types_told is = each_alike (f space.Ty) index_value (index_told space.Ty) is

  type_if_told : (o : Option Index) → option_map index_value (option_map (f space.Ty) o) ≡ option_map index_value o
  type_if_told o = option_alike (f space.Ty) index_value (index_told space.Ty) o

  -- Things with ids, whatever these become.
  module _ (own : Ids) where
    params_told : (ps : List (Option Id × Option NameAnnotation × ValType))
        → map (λ (p : Option Id × Option NameAnnotation × ValType). as_val_type p.2) (map (named_param own f) ps) ≡ map
        (λ (p : Option Id × Option NameAnnotation × ValType). as_val_type p.2) ps
    params_told ps = each_alike (named_param own f) (λ p. as_val_type p.2) (λ p. val_told p.2) ps

    field_told : (x : StructField) → as_field_type (named_struct_field own f x) ≡ as_field_type x
    field_told x = grind (arith, common_steps, storage_told)

    fields_told : (fs : List StructField) → map as_field_type (map (named_struct_field own f) fs) ≡ map as_field_type fs
    fields_told fs = each_alike (named_struct_field own f) as_field_type field_told fs

    inner_told : (x : InnerTypeKind) → as_inner_type (named_inner own f x) ≡ as_inner_type x
    inner_told (inner.Func t) = λ i. composite.Func (record { params = params_told t.params i; results = vals_told t.results i })
    inner_told (inner.Struct t) = λ i. composite.Struct (record { fields = fields_told t.fields i })
    inner_told (inner.Array t) = λ i. composite.Array (record { 0 = record { element_type = storage_told t.ty i; mutable = t.mutable } })
    inner_told (inner.Cont t) = λ i. composite.Cont (record { 0 = index_told space.Ty t.0 i })

    pub def_told : (d : TypeDef) → as_sub_type (named_def own f d) ≡ as_sub_type d
    def_told d = grind (arith, common_steps, inner_told, types_told, type_if_told)
