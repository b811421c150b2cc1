-- What no map changes of a field: whether it is desugared, its items except their ids, and its checks of import
-- order.
use Rattle.std.specs.Prelude.{not, ◌&&◌, Option}
use Rattle.std.specs.Borrow.{Bor}
use Rattle.std.proofs.Common.{◌≡◌, ℕ, List, [], ◌∷◌, ◌++◌, refl, sym, ap, ◌∙◌, map}
use Rattle.std.proofs.lemmas.List.{map-append}
use Rattle.std.specs.List.{flat_map}
use Rattle.wast_tree_map.specs.Tree.{Id, TypeUse, FunctionType, FuncKind, TableKind, GlobalKind, ItemSig, ItemKind, ImportItems}
use Rattle.wast_tree_map.specs.Tree.{InnerTypeKind, Space, StructField, ModuleField}
use Rattle.wast_tree_map.specs.Tree.space
use Rattle.wast_tree_map.specs.Tree.inner
use Rattle.wast_tree_map.specs.Tree.ty
use Rattle.wast_tree_map.specs.Tree.func
use Rattle.wast_tree_map.specs.Tree.kind
use Rattle.wast_tree_map.specs.Tree.import_items
use Rattle.wast_tree_map.specs.Tree.table
use Rattle.wast_tree_map.specs.Tree.global
use Rattle.wast_tree_map.specs.Tree.field
use Rattle.wast_base.specs.Ids.{Mark, mark_of_option}
use Rattle.wast_tree_nodes.specs.Items.{Item, item, field_ids, fields_of, space_of_kind, items_of_type, item_of_sig, items_of_import, items_in, items}
use Rattle.wast_tree_nodes.specs.Imports.{defined_space}
use Rattle.wast_tree_nodes.specs.Profiles.{is_imported_func, is_imported_global}
use Rattle.wast_tree_nodes.specs.WrittenOut.{exports_nothing, is_written_table, is_written_field, is_written_out}
use Rattle.wast_tree_map.specs.Mapped.{Change, KeepsMarks, named_struct_field, named_inner, mapped_type, mapped_func_kind}
use Rattle.wast_tree_map.specs.Mapped.{mapped_table_kind, mapped_global_kind, mapped_item_kind, mapped_sig, mapped_shared_id}
use Rattle.wast_tree_map.specs.Mapped.{mapped_import_items, mapped_field}
use Rattle.wast_tree_map.specs.Named.{Naming, identity_naming, renamed_mark, renamed_item, RenamesIds}
use Rattle.wast_tree_map.specs.Laws.{KeepsItems, NamesItems, all_mapped}
use Rattle.wast_tree_map.proofs.Kept.{mark_kept, items_kept, names_kept_by}

-- If no id changes, the id of a signature that names share does not change either.
pub shared_id_stays : {N : Type 0} (f : Change) → ((o : Option Id) → f.id o ≡ o) → ((o : Option Id) → f.own o ≡ o) → (names : List N) (o : Option Id)
    → mapped_shared_id f names o ≡ o
shared_id_stays f items owns [] o = owns o
shared_id_stays f items owns (name ∷ names) o = items o

module _ (f : Change) where
  func_alone : (u : TypeUse FunctionType) (k : FuncKind) → not (is_imported_func (mapped_func_kind f u k)) ≡ not (is_imported_func k)
  func_alone u (func.Import import exact) = refl
  func_alone u (func.Inline locals e) = refl

  table_alone : (k : TableKind) → is_written_table (mapped_table_kind f k) ≡ is_written_table k
  table_alone (table.Import import ty) = refl
  table_alone x = refl

  global_alone : (k : GlobalKind) → not (is_imported_global (mapped_global_kind f k)) ≡ not (is_imported_global k)
  global_alone (global.Import import) = refl
  global_alone (global.Inline e) = refl

  pub field_alone : (x : ModuleField) → is_written_field (mapped_field f x) ≡ is_written_field x
  field_alone (field.Func x) = ap (λ b. exports_nothing x.exports && b) (func_alone _ x.kind)
  field_alone (field.Table x) = ap (λ b. exports_nothing x.exports && b) (table_alone x.kind)
  field_alone (field.Global x) = ap (λ b. exports_nothing x.exports && b) (global_alone x.kind)
  field_alone x = refl

  -- A list is desugared if and only if the mapped one is.
  pub written_alone : (xs : List ModuleField) → is_written_out (all_mapped f xs) ≡ is_written_out xs
  written_alone [] = refl
  written_alone (x ∷ xs) = ap (λ b. b && is_written_out (all_mapped f xs)) (field_alone x) ∙ ap (λ b. is_written_field x && b) (written_alone xs)

  -- A field defines an item of the same index space.
  pub defines_alone : (x : ModuleField) → defined_space (mapped_field f x) ≡ defined_space x
  defines_alone (field.Func x) = refl
  defines_alone x = refl

-- The items are those of the list, renamed.
module _ (n : Naming) (f : Change) (ids : NamesItems n f) (names : RenamesIds n f) where
  struct_named : (fields : List StructField) → field_ids (map (named_struct_field f.own f.index) fields) ≡ map (renamed_mark n) (field_ids fields)
  struct_named [] = refl
  struct_named (x ∷ xs) = λ i. names.owns x.id i ∷ struct_named xs i

  inner_named : (t : InnerTypeKind) → field_ids (fields_of (named_inner f.own f.index t)) ≡ map (renamed_mark n) (field_ids (fields_of t))
  inner_named (inner.Struct t) = struct_named t.fields
  inner_named x = refl

  type_named : (t : ty.«Type») → items_of_type (mapped_type f t) ≡ map (renamed_item n) (items_of_type t)
  type_named t = λ i. record { space = space.Ty; id = ids t.id i; fields = inner_named t.def.kind i } ∷ []

  types_named : (ts : List ty.«Type») → flat_map items_of_type (map (mapped_type f) ts) ≡ map (renamed_item n) (flat_map items_of_type ts)
  types_named [] = refl
  types_named (t ∷ ts) = λ i. type_named t i ++ types_named ts i

  kind_alone : (k : ItemKind) → space_of_kind (mapped_item_kind f k) ≡ space_of_kind k
  kind_alone (kind.Func u) = refl
  kind_alone x = refl

  sig_named : (s : ItemSig) → item_of_sig (mapped_sig f s) ≡ renamed_item n (item_of_sig s)
  sig_named s = λ i. record { space = kind_alone s.kind i; id = ids s.id i; fields = [] }

  sigs_named : (ps : List (Bor (List ℕ) × ItemSig))
      → flat_map (λ (p : Bor (List ℕ) × ItemSig). item_of_sig p.1 ∷ []) (map (λ (p : Bor (List ℕ) × ItemSig). (p.0, mapped_sig f p.1)) ps) ≡ map
      (renamed_item n) (flat_map (λ (p : Bor (List ℕ) × ItemSig). item_of_sig p.1 ∷ []) ps)
  sigs_named [] = refl
  sigs_named (p ∷ ps) = λ i. sig_named p.1 i ∷ sigs_named ps i

  group_named : (x y : Item) → x ≡ renamed_item n y → (texts : List (Bor (List ℕ)))
      → flat_map (λ (text : Bor (List ℕ)). x ∷ []) texts ≡ map (renamed_item n) (flat_map (λ (text : Bor (List ℕ)). y ∷ []) texts)
  group_named x y e [] = refl
  group_named x y e (text ∷ texts) = λ i. e i ∷ group_named x y e texts i

  import_named : (i : ImportItems) → items_of_import (mapped_import_items f i) ≡ map (renamed_item n) (items_of_import i)
  import_named (import_items.Single source name sig) = λ i. sig_named sig i ∷ []
  import_named (import_items.Group1 source items) = sigs_named items
  import_named (import_items.Group2 source sig []) = refl
  import_named (import_items.Group2 source sig (text ∷ texts)) = group_named (item_of_sig (mapped_sig f sig)) (item_of_sig sig) (sig_named sig) (text ∷ texts)

  item_named : (s : Space) (o : Option Id) → item s (f.id o) [] ∷ [] ≡ map (renamed_item n) (item s o [] ∷ [])
  item_named s o = ap (λ (m : Option Mark). record { space = s; id = m; fields = [] } ∷ []) (ids o)

  pub items_named_in : (x : ModuleField) → items_in (mapped_field f x) ≡ map (renamed_item n) (items_in x)
  items_named_in (field.Ty t) = type_named t
  items_named_in (field.Rec r) = types_named r.types
  items_named_in (field.Import i) = import_named i.items
  items_named_in (field.Func x) = item_named space.Func x.id
  items_named_in (field.Table x) = item_named space.Table x.id
  items_named_in (field.Memory x) = item_named space.Memory x.id
  items_named_in (field.Global x) = item_named space.Global x.id
  items_named_in (field.Elem x) = item_named space.Elem x.id
  items_named_in (field.Data x) = item_named space.Data x.id
  items_named_in (field.Tag x) = item_named space.Tag x.id
  items_named_in x = refl

  pub items_named : (xs : List ModuleField) → items (all_mapped f xs) ≡ map (renamed_item n) (items xs)
  items_named [] = refl
  items_named (x ∷ xs) = (λ i. items_named_in x i ++ items_named xs i) ∙ sym (map-append (renamed_item n) (items_in x) (items xs))

-- The items are the same, if their ids are.
pub items_alone : (f : Change) → KeepsItems f → KeepsMarks f → (xs : List ModuleField) → items (all_mapped f xs) ≡ items xs
items_alone f keeps marks xs = items_named identity_naming f (λ o. keeps o ∙ sym (mark_kept (mark_of_option o))) (names_kept_by f marks) xs
    ∙ items_kept (items xs)
