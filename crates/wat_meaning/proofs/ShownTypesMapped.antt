-- Maps over the tree do not look at names and strings.
--
-- A change gives each index, type use and id a new value. Of these, only a type use has names: those of the parameters of its inline type.
-- The locals of a body have the type use of their function. So a change that ignores the addresses of names in these two may be made
-- before the addresses are set to 0, or after that.
--
--   (func $f (param (@name "a") i32) local.get 0), at any address      the same change in both orders
use Rattle.std.specs.Borrow.{Bor}
use Rattle.std.proofs.Common.{◌≡◌, ℕ, List, [], ◌∷◌, ◌++◌, map, Option, option_map, refl, ap, ◌∙◌}
use Rattle.wast_base.specs.Blocks.{Blocks}
use Rattle.wast_base.specs.Ids.{Mark}
use Rattle.wast_tree_nodes.specs.Sites.{Where, OfItem, OfCall, OfBlock, Locals, BodyContext, constant_context, context_after, param_marks}
use Rattle.wast_tree_nodes.specs.Sites.{local_marks, body_here}
use Rattle.wast_tree_map.specs.Laws.{all_mapped}
use Rattle.wast_tree_map.specs.Mapped.{Indices, Change, mapped_val, named_param, named_signature, named_struct_field, named_inner}
use Rattle.wast_tree_map.specs.Mapped.{named_def, mapped_type, mapped_tag_type, mapped_indirect, mapped_block, mapped_try_table}
use Rattle.wast_tree_map.specs.Mapped.{mapped_instr, mapped_instrs, mapped_expression, mapped_constant, mapped_local, mapped_func_kind}
use Rattle.wast_tree_map.specs.Mapped.{mapped_func, mapped_item_kind, mapped_sig, mapped_shared_id, mapped_import_items, mapped_ref}
use Rattle.wast_tree_map.specs.Mapped.{mapped_payload, mapped_table_type, mapped_table_kind, mapped_table, mapped_global_kind}
use Rattle.wast_tree_map.specs.Mapped.{mapped_global, mapped_tag, mapped_elem_kind, mapped_elem, mapped_data_kind, mapped_data}
use Rattle.wast_tree_map.specs.Mapped.{mapped_field}
use Rattle.wat_syntax.specs.Tree.{Id, Index, NameAnnotation, ValType, StructField, FunctionType, TypeUse, InnerTypeKind, TypeDef, BlockType}
use Rattle.wat_syntax.specs.Tree.{TryTable, CallIndirect, Instruction, Expression, TagType, ImportItems, ItemSig, ItemKind, Local, FuncKind}
use Rattle.wat_syntax.specs.Tree.{Func, TableKind, GlobalKind, ElemKind, ElemPayload, DataKind, ModuleField}
use Rattle.wat_syntax.specs.Tree.space
use Rattle.wat_syntax.specs.Tree.inner
use Rattle.wat_syntax.specs.Tree.ty
use Rattle.wat_syntax.specs.Tree.instr
use Rattle.wat_syntax.specs.Tree.tag
use Rattle.wat_syntax.specs.Tree.kind
use Rattle.wat_syntax.specs.Tree.import_items
use Rattle.wat_syntax.specs.Tree.func
use Rattle.wat_syntax.specs.Tree.table
use Rattle.wat_syntax.specs.Tree.global
use Rattle.wat_syntax.specs.Tree.elem
use Rattle.wat_syntax.specs.Tree.payload
use Rattle.wat_syntax.specs.Tree.data_kind
use Rattle.wat_syntax.specs.Tree.field
use Rattle.wat_syntax.specs.Bare.{bare_text}
use Rattle.wat_ready.specs.Shown.{shown_block, shown_call, shown_composite, shown_data, shown_data_kind, shown_elem, shown_elem_kind}
use Rattle.wat_ready.specs.Shown.{shown_expression, shown_field, shown_fields, shown_func, shown_func_kind, shown_function_type}
use Rattle.wat_ready.specs.Shown.{shown_global, shown_global_kind, shown_instr, shown_item, shown_item_kind, shown_item_sig, shown_items}
use Rattle.wat_ready.specs.Shown.{shown_local, shown_param, shown_payload, shown_struct_field, shown_table, shown_table_kind, shown_tag}
use Rattle.wat_ready.specs.Shown.{shown_tag_type, shown_try_table, shown_type, shown_type_def, shown_type_use}
use Rattle.wat_ready.specs.ShownSites.{shown_locals, shown_context}
use Rattle.wat_meaning.proofs.ShownInlineLists.{map_changed, option_mapped}
use Rattle.wat_ready.proofs.ShownSites.{next_shown}
use Rattle.wat_ready.proofs.ShownTypeParts.{params_shown, locals_shown}

-- The change does not look at the addresses of names.
pub record IgnoresNames (f : Change) : Type 0 where
  pub used : (w : Where) (u : TypeUse FunctionType) → f.used w (shown_type_use u) ≡ shown_type_use (f.used w u)
  pub local : (l : Locals) (i : Index) → f.local (shown_locals l) i ≡ f.local l i

-- Types. Their names are those of parameters and of fields of structs.
module _ (own : Option Id → Option Id) (f : Indices) where
  pub signature_shown : (t : FunctionType) → named_signature own f (shown_function_type t) ≡ shown_function_type (named_signature own f t)
  signature_shown t =
      ap (λ (ps : List (Option Id × Option NameAnnotation × ValType)). record { params = ps; results = map (mapped_val f) t.results })
      (map_changed shown_param shown_param (named_param own f) (λ p. refl) t.params)

  struct_shown : (fs : List StructField)
      → map (named_struct_field own f) (map shown_struct_field fs) ≡ map shown_struct_field (map (named_struct_field own f) fs)
  struct_shown fs = map_changed shown_struct_field shown_struct_field (named_struct_field own f) (λ x. refl) fs

  inner_shown : (t : InnerTypeKind) → named_inner own f (shown_composite t) ≡ shown_composite (named_inner own f t)
  inner_shown (inner.Func t) = ap inner.Func (signature_shown t)
  inner_shown (inner.Struct t) = ap (λ (fs : List StructField). inner.Struct (record { fields = fs })) (struct_shown t.fields)
  inner_shown (inner.Array t) = refl
  inner_shown (inner.Cont t) = refl

  def_shown : (d : TypeDef) → named_def own f (shown_type_def d) ≡ shown_type_def (named_def own f d)
  def_shown d = ap (λ (k : InnerTypeKind). record (named_def own f d) { kind = k }) (inner_shown d.kind)

module _ (f : Change) (is : IgnoresNames f) where
  -- Instructions.
  block_shown : (b : BlockType) → mapped_block f (shown_block b) ≡ shown_block (mapped_block f b)
  block_shown b = ap (λ (u : TypeUse FunctionType). record (shown_block (mapped_block f b)) { ty = u }) (is.used OfBlock b.ty)

  try_table_shown : (blocks : Blocks) (t : TryTable)
      → mapped_try_table f blocks (shown_try_table t) ≡ shown_try_table (mapped_try_table f blocks t)
  try_table_shown blocks t = ap (λ (b : BlockType). record (shown_try_table (mapped_try_table f blocks t)) { block = b }) (block_shown t.block)

  call_shown : (c : CallIndirect) → mapped_indirect f (shown_call c) ≡ shown_call (mapped_indirect f c)
  call_shown c = ap (λ (u : TypeUse FunctionType). record (shown_call (mapped_indirect f c)) { ty = u }) (is.used OfCall c.ty)

  instr_shown : (h : BodyContext) (i : Instruction) → mapped_instr f (shown_context h) (shown_instr i) ≡ shown_instr (mapped_instr f h i)
  instr_shown h (instr.block b) = ap instr.block (block_shown b)
  instr_shown h (instr.loop_ b) = ap instr.loop_ (block_shown b)
  instr_shown h (instr.if_ b) = ap instr.if_ (block_shown b)
  instr_shown h (instr.try_ b) = ap instr.try_ (block_shown b)
  instr_shown h (instr.try_table t) = ap instr.try_table (try_table_shown h.blocks t)
  instr_shown h (instr.call_indirect c) = ap instr.call_indirect (call_shown c)
  instr_shown h (instr.return_call_indirect c) = ap instr.return_call_indirect (call_shown c)
  instr_shown h (instr.local_get i) = ap instr.local_get (is.local h.locals i)
  instr_shown h (instr.local_set i) = ap instr.local_set (is.local h.locals i)
  instr_shown h (instr.local_tee i) = ap instr.local_tee (is.local h.locals i)
  instr_shown h i = refl

  instrs_shown : (h : BodyContext) (is : List Instruction)
      → mapped_instrs f (shown_context h) (map shown_instr is) ≡ map shown_instr (mapped_instrs f h is)
  instrs_shown h [] = refl
  instrs_shown h (i ∷ is) =
      λ t. instr_shown h i t ∷ (ap (λ k. mapped_instrs f k (map shown_instr is)) (next_shown h i) ∙ instrs_shown (context_after h i) is) t

  expression_shown : (h : BodyContext) (e : Expression)
      → mapped_expression f (shown_context h) (shown_expression e) ≡ shown_expression (mapped_expression f h e)
  expression_shown h e = ap (λ (is : List Instruction). record e { instrs = is }) (instrs_shown h e.instrs)

  constant_shown : (e : Expression) → mapped_constant f (shown_expression e) ≡ shown_expression (mapped_constant f e)
  constant_shown e = expression_shown constant_context e

  -- Functions.
  locals_mapped : (locals : List Local) → map (mapped_local f) (map shown_local locals) ≡ map shown_local (map (mapped_local f) locals)
  locals_mapped locals = map_changed shown_local shown_local (mapped_local f) (λ l. refl) locals

  kind_shown : (u : TypeUse FunctionType) (k : FuncKind)
      → mapped_func_kind f (shown_type_use u) (shown_func_kind k) ≡ shown_func_kind (mapped_func_kind f u k)
  kind_shown u (func.Import source exact) = refl
  kind_shown u (func.Inline locals e) =
      λ i. func.Inline (locals_mapped locals i)
      ((ap (λ (ms : List (Option Mark)). mapped_expression f (body_here (shown_type_use u) ms) (shown_expression e))
      (λ j. params_shown u.inline j ++ locals_shown locals j)
      ∙ expression_shown (body_here u (param_marks u.inline ++ local_marks locals)) e) i)

  func_shown : (x : Func) → mapped_func f (shown_func x) ≡ shown_func (mapped_func f x)
  func_shown x = λ i. record (shown_func (mapped_func f x)) { kind = kind_shown x.ty x.kind i; ty = is.used OfItem x.ty i }

  -- Imports.
  tag_type_shown : (t : TagType) → mapped_tag_type f (shown_tag_type t) ≡ shown_tag_type (mapped_tag_type f t)
  tag_type_shown (tag.Exception u) = ap tag.Exception (is.used OfItem u)

  item_kind_shown : (k : ItemKind) → mapped_item_kind f (shown_item_kind k) ≡ shown_item_kind (mapped_item_kind f k)
  item_kind_shown (kind.Func u) = ap kind.Func (is.used OfItem u)
  item_kind_shown (kind.FuncExact u) = ap kind.FuncExact (is.used OfItem u)
  item_kind_shown (kind.Tag t) = ap kind.Tag (tag_type_shown t)
  item_kind_shown x = refl

  sig_shown : (s : ItemSig) → mapped_sig f (shown_item_sig s) ≡ shown_item_sig (mapped_sig f s)
  sig_shown s = ap (λ (k : ItemKind). record (shown_item_sig (mapped_sig f s)) { kind = k }) (item_kind_shown s.kind)

  shared_shown : (names : List (Bor (List ℕ))) (id : Option Id) → mapped_shared_id f (map bare_text names) id ≡ mapped_shared_id f names id
  shared_shown [] id = refl
  shared_shown (name ∷ names) id = refl

  import_shown : (x : ImportItems) → mapped_import_items f (shown_items x) ≡ shown_items (mapped_import_items f x)
  import_shown (import_items.Single source name sig) = ap (import_items.Single (bare_text source) (bare_text name)) (sig_shown sig)
  import_shown (import_items.Group1 source items) =
      ap (import_items.Group1 (bare_text source))
      (map_changed shown_item shown_item (λ (p : Bor (List ℕ) × ItemSig). (p.0, mapped_sig f p.1))
      (λ p. ap (λ (s : ItemSig). (bare_text p.0, s)) (sig_shown p.1)) items)
  import_shown (import_items.Group2 source sig names) =
      λ i. import_items.Group2 (bare_text source)
      (record (shown_item_sig sig) { id = shared_shown names sig.id i; kind = item_kind_shown sig.kind i }) (map bare_text names)

  -- Segments, tables and globals.
  payload_shown : (p : ElemPayload) → mapped_payload f (shown_payload p) ≡ shown_payload (mapped_payload f p)
  payload_shown (payload.Indices xs) = refl
  payload_shown (payload.Exprs ty es) =
      ap (payload.Exprs (mapped_ref f.index ty)) (map_changed shown_expression shown_expression (mapped_constant f) constant_shown es)

  elem_kind_shown : (k : ElemKind) → mapped_elem_kind f (shown_elem_kind k) ≡ shown_elem_kind (mapped_elem_kind f k)
  elem_kind_shown elem.Passive = refl
  elem_kind_shown elem.Declared = refl
  elem_kind_shown (elem.Active x e) = ap (elem.Active (option_map (f.index space.Table) x)) (constant_shown e)

  data_kind_shown : (k : DataKind) → mapped_data_kind f (shown_data_kind k) ≡ shown_data_kind (mapped_data_kind f k)
  data_kind_shown data_kind.Passive = refl
  data_kind_shown (data_kind.Active x e) = ap (data_kind.Active (f.index space.Memory x)) (constant_shown e)

  table_kind_shown : (k : TableKind) → mapped_table_kind f (shown_table_kind k) ≡ shown_table_kind (mapped_table_kind f k)
  table_kind_shown (table.Import source ty) = refl
  table_kind_shown (table.Normal ty init) =
      ap (table.Normal (mapped_table_type f.index ty)) (option_mapped shown_expression shown_expression (mapped_constant f) constant_shown init)
  table_kind_shown (table.Inline ty is64 shared p) = ap (table.Inline (mapped_ref f.index ty) is64 shared) (payload_shown p)

  global_kind_shown : (k : GlobalKind) → mapped_global_kind f (shown_global_kind k) ≡ shown_global_kind (mapped_global_kind f k)
  global_kind_shown (global.Import source) = refl
  global_kind_shown (global.Inline e) = ap global.Inline (constant_shown e)

  type_shown : (t : ty.«Type») → mapped_type f (shown_type t) ≡ shown_type (mapped_type f t)
  type_shown t = ap (λ (d : TypeDef). record (shown_type (mapped_type f t)) { def = d }) (def_shown f.own f.index t.def)

  -- Fields.
  pub field_shown : (x : ModuleField) → mapped_field f (shown_field x) ≡ shown_field (mapped_field f x)
  field_shown (field.Ty x) = ap field.Ty (type_shown x)
  field_shown (field.Rec x) =
      ap (λ (ts : List ty.«Type»). field.Rec (record { span = x.span; types = ts }))
      (map_changed shown_type shown_type (mapped_type f) type_shown x.types)
  field_shown (field.Import x) = ap (λ (is : ImportItems). field.Import (record { span = x.span; items = is })) (import_shown x.items)
  field_shown (field.Func x) = ap field.Func (func_shown x)
  field_shown (field.Table x) =
      ap (λ (k : TableKind). field.Table (record (shown_table (mapped_table f x)) { kind = k })) (table_kind_shown x.kind)
  field_shown (field.Global x) =
      ap (λ (k : GlobalKind). field.Global (record (shown_global (mapped_global f x)) { kind = k })) (global_kind_shown x.kind)
  field_shown (field.Elem x) =
      λ i. field.Elem (record (shown_elem (mapped_elem f x)) { kind = elem_kind_shown x.kind i; payload = payload_shown x.payload i })
  field_shown (field.Data x) =
      ap (λ (k : DataKind). field.Data (record (shown_data (mapped_data f x)) { kind = k })) (data_kind_shown x.kind)
  field_shown (field.Tag x) =
      ap (λ (t : TagType). field.Tag (record (shown_tag (mapped_tag f x)) { ty = t })) (tag_type_shown x.ty)
  field_shown x = refl

  pub shown_mapped : (xs : List ModuleField) → all_mapped f (shown_fields xs) ≡ shown_fields (all_mapped f xs)
  shown_mapped xs = map_changed shown_field shown_field (mapped_field f) field_shown xs
