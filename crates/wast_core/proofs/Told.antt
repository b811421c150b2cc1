-- What is read of a field does not change, if each index has the same number and each type use the same type.
use Rattle.std.proofs.Common.{◌≡◌, List, [], ◌∷◌, ◌++◌, map, Option, option_map, refl, ap, arith}
use Rattle.std.proofs.lemmas.Grind.{common_steps}
use Rattle.wast_base.specs.Blocks.{Blocks}
use Rattle.wast_tree_nodes.specs.Sites.{Where, Locals, BodyContext, constant_context, context_after, param_marks, local_marks, body_here}
use Rattle.wast_tree_map.specs.Mapped.{Change, mapped_val, named_def, mapped_mem_arg, mapped_heap, mapped_ref, mapped_type}
use Rattle.wast_tree_map.specs.Mapped.{mapped_table_type, mapped_global_type, mapped_tag_type, mapped_block, mapped_catch, mapped_instr}
use Rattle.wast_tree_map.specs.Mapped.{mapped_instrs, mapped_constant, mapped_local, mapped_func_kind, mapped_item_kind}
use Rattle.wast_tree_map.specs.Mapped.{mapped_import_items, mapped_payload, mapped_table_kind, mapped_global_kind, mapped_elem_kind}
use Rattle.wast_tree_map.specs.Mapped.{mapped_data_kind, mapped_field}
use Rattle.wast_core.specs.Tree.{Space, ValType, TypeDef, MemArg, Index, TypeUse, FunctionType, HeapType, RefType, TableType, GlobalType}
use Rattle.wast_core.specs.Tree.{TagType, ItemKind, ImportItems, BlockType, TryTableCatch, Instruction, Expression, Local, FuncKind}
use Rattle.wast_core.specs.Tree.{TableKind, GlobalKind, ElemKind, ElemPayload, DataKind, ModuleField}
use Rattle.wast_core.specs.Tree.ty
use Rattle.wast_core.specs.Tree.space
use Rattle.wast_core.specs.Tree.instr
use Rattle.wast_core.specs.Tree.func
use Rattle.wasm_ops.specs.SelectInstrs.{select_instr}
use Rattle.wast_core_conv.specs.FieldEntries.{as_imports, table_of, value_of}
use Rattle.wast_core_conv.specs.Values.{as_block_type, as_catch, as_heap_type, as_ref_type, as_table_type, as_global_type, as_mem_arg}
use Rattle.wast_core_sections.specs.Sections.{contribution_of, index_value, as_val_type, as_sub_type, type_index, as_tag_type}
use Rattle.wast_core_sections.specs.Sections.{as_entity_type, as_instr, as_expression, as_body, as_element_mode, as_element_items}
use Rattle.wast_core_sections.specs.Sections.{as_data_mode}
use Rattle.wast_core.specs.Front.{KeepsNumbers}
use Rattle.wast_core.proofs.ToldTypes as types
use Rattle.wast_core.proofs.ToldTypes.{each_alike, option_alike}

module _ (f : Change) (t : KeepsNumbers f) where
  index_told : (s : Space) (i : Index) → index_value (f.index s i) ≡ index_value i
  index_told s i = t.index s i

  local_told : (l : Locals) (i : Index) → index_value (f.local l i) ≡ index_value i
  local_told l i = t.local l i

  member_told : (o i : Index) → index_value (f.field o i) ≡ index_value i
  member_told o i = t.member o i

  label_told : (b : Blocks) (i : Index) → index_value (f.label b i) ≡ index_value i
  label_told b i = t.label b i

  use_told : (w : Where) (u : TypeUse FunctionType) → type_index (f.used w u) ≡ type_index u
  use_told w u = t.used w u

  -- Types.
  heap_told : (x : HeapType) → as_heap_type (mapped_heap f.index x) ≡ as_heap_type x
  heap_told x = types.heap_told f.index index_told x

  ref_told : (x : RefType) → as_ref_type (mapped_ref f.index x) ≡ as_ref_type x
  ref_told x = types.ref_told f.index index_told x

  table_type_told : (x : TableType) → as_table_type (mapped_table_type f.index x) ≡ as_table_type x
  table_type_told x = types.table_type_told f.index index_told x

  global_type_told : (x : GlobalType) → as_global_type (mapped_global_type f.index x) ≡ as_global_type x
  global_type_told x = types.global_type_told f.index index_told x

  def_told : (d : TypeDef) → as_sub_type (named_def f.own f.index d) ≡ as_sub_type d
  def_told d = types.def_told f.index index_told f.own d

  group_told : (ts : List ty.«Type») → map (λ (t : ty.«Type»). as_sub_type t.def) (map (mapped_type f) ts) ≡ map (λ (t : ty.«Type»). as_sub_type t.def) ts
  group_told ts = each_alike (mapped_type f) (λ t. as_sub_type t.def) (λ t. def_told t.def) ts

  tag_told : (x : TagType) → as_tag_type (mapped_tag_type f x) ≡ as_tag_type x
  tag_told x = grind (arith, common_steps, use_told)

  entity_told : (k : ItemKind) → as_entity_type (mapped_item_kind f k) ≡ as_entity_type k
  entity_told k = grind (arith, common_steps, use_told, table_type_told, global_type_told, tag_told)

  import_told : (i : ImportItems) → as_imports (mapped_import_items f i) ≡ as_imports i
  import_told i = grind (arith, common_steps, entity_told)

  block_told : (b : BlockType) → as_block_type (mapped_block f b) ≡ as_block_type b
  block_told b = t.block b.ty

  -- Labels and catch clauses.
  catch_told : (blocks : Blocks) (c : TryTableCatch) → as_catch (mapped_catch f blocks c) ≡ as_catch c
  catch_told blocks c = grind (arith, common_steps, index_told, label_told)

  catches_told : (blocks : Blocks) (cs : List TryTableCatch) → map as_catch (map (mapped_catch f blocks) cs) ≡ map as_catch cs
  catches_told blocks cs = each_alike (mapped_catch f blocks) as_catch (catch_told blocks) cs

  labels_told : (blocks : Blocks) (is : List Index) → map index_value (map (f.label blocks) is) ≡ map index_value is
  labels_told blocks is = each_alike (f.label blocks) index_value (label_told blocks) is

  funcs_told : (is : List Index) → map index_value (map (f.index space.Func) is) ≡ map index_value is
  funcs_told is = each_alike (f.index space.Func) index_value (index_told space.Func) is

  mem_arg_told : (m : MemArg) → as_mem_arg (mapped_mem_arg f.index m) ≡ as_mem_arg m
  mem_arg_told m = grind (arith, common_steps, index_told)

  select_told : (o : Option (List ValType)) → option_map (map as_val_type) (option_map (map (mapped_val f.index)) o) ≡ option_map (map as_val_type) o
  select_told o = option_alike (map (mapped_val f.index)) (map as_val_type) (types.vals_told f.index index_told) o

  -- Bodies.
  instr_told : (h : BodyContext) (i : Instruction) → as_instr (mapped_instr f h i) ≡ as_instr i
  instr_told h (instr.select t) = ap select_instr (select_told t.tys)
  instr_told h i = grind (
    arith,
    common_steps,
    heap_told,
    ref_told,
    block_told,
    mem_arg_told,
    use_told,
    catches_told,
    labels_told,
    index_told,
    local_told,
    member_told,
    label_told,
  )

  instrs_told : (h : BodyContext) (is : List Instruction) → map as_instr (mapped_instrs f h is) ≡ map as_instr is
  instrs_told h [] = refl
  instrs_told h (i ∷ is) = λ t. instr_told h i t ∷ instrs_told (context_after h i) is t

  constant_told : (e : Expression) → as_expression (mapped_constant f e) ≡ as_expression e
  constant_told e = instrs_told constant_context e.instrs

  constants_told : (es : List Expression) → map as_expression (map (mapped_constant f) es) ≡ map as_expression es
  constants_told es = each_alike (mapped_constant f) as_expression constant_told es

  locals_told : (ls : List Local) → map (λ (l : Local). as_val_type l.ty) (map (mapped_local f) ls) ≡ map (λ (l : Local). as_val_type l.ty) ls
  locals_told ls = each_alike (mapped_local f) (λ l. as_val_type l.ty) (λ l. types.val_told f.index index_told l.ty) ls

  pub body_told : (u : TypeUse FunctionType) (k : FuncKind) → as_body (mapped_func_kind f u k) ≡ as_body k
  body_told u (func.Import import exact) = refl
  body_told u (func.Inline locals e) = λ t. record {
    locals = locals_told locals t;
    instrs = instrs_told (body_here u (param_marks u.inline ++ local_marks locals)) e.instrs t;
  }

  -- Tables, globals and segments.
  table_told : (k : TableKind) → table_of (mapped_table_kind f k) ≡ table_of k
  table_told k = grind (arith, common_steps, table_type_told, ref_told, constant_told)

  value_told : (k : GlobalKind) → value_of (mapped_global_kind f k) ≡ value_of k
  value_told k = grind (arith, common_steps, constant_told)

  mode_told : (k : ElemKind) → as_element_mode (mapped_elem_kind f k) ≡ as_element_mode k
  mode_told k = grind (arith, common_steps, constant_told, index_told)

  items_told : (p : ElemPayload) → as_element_items (mapped_payload f p) ≡ as_element_items p
  items_told p = grind (arith, common_steps, funcs_told, constants_told, ref_told)

  place_told : (k : DataKind) → as_data_mode (mapped_data_kind f k) ≡ as_data_mode k
  place_told k = grind (arith, common_steps, constant_told, index_told)

  pub contributed_told : (x : ModuleField) → contribution_of (mapped_field f x) ≡ contribution_of x
  contributed_told x = grind (
    arith,
    common_steps,
    def_told,
    group_told,
    import_told,
    use_told,
    body_told,
    table_told,
    global_type_told,
    value_told,
    mode_told,
    items_told,
    place_told,
    tag_told,
    index_told,
  )
