-- A bare tree is the tree with each id at address 0, and then each name and string too.
--
-- `bare` of the trees sets all texts to address 0 in one step. The change `erased` does so for ids, and `shown` for names and strings.
-- For example, `(func $f (export "a"))` has `$f` at address 0 after the first step, and "a" after the second. A part whose texts are ids
-- alone is changed by the first step alone, and `bare` of it is that step by definition. So lemmas are about the other parts, and a last
-- clause has the variants without names and strings.
use Rattle.std.proofs.Common.{◌≡◌, List, [], ◌∷◌, ◌++◌, map, Option, Some, None, option_map, refl, ap}
use Rattle.std.specs.Borrow.{Bor}
use Rattle.std.specs.Prelude.{ℕ}
use Rattle.wast_base.specs.Ids.{named_by}
use Rattle.wast_base.specs.declared.ids.Name as code
use Rattle.wast_base.specs.declared.ids.Name.TheVariants as id_name
use Rattle.wast_tree_nodes.specs.Sites.{BodyContext, constant_context, context_after, param_marks, local_marks, body_here}
use Rattle.wast_tree_map.specs.Mapped.{named_param, named_struct_field, named_inner, mapped_type, mapped_rec, mapped_tag_type}
use Rattle.wast_tree_map.specs.Mapped.{mapped_indirect, mapped_block, mapped_instr, mapped_instrs, mapped_expression, mapped_constant}
use Rattle.wast_tree_map.specs.Mapped.{mapped_local, mapped_func_kind, mapped_func, mapped_item_kind, mapped_sig, mapped_import_items}
use Rattle.wast_tree_map.specs.Mapped.{mapped_payload, mapped_table_kind, mapped_table, mapped_global_kind, mapped_global, mapped_tag}
use Rattle.wast_tree_map.specs.Mapped.{mapped_elem_kind, mapped_elem, mapped_data_kind, mapped_data, mapped_field}
use Rattle.wat_syntax.specs.Tree.{Id, NameAnnotation, ValType, StructField, FunctionType, TypeUse, InnerTypeKind, Rec, BlockType}
use Rattle.wat_syntax.specs.Tree.{CallIndirect, Instruction, Expression, TagType, ImportItems, ItemSig, ItemKind, Elem, ElemKind}
use Rattle.wat_syntax.specs.Tree.{ElemPayload, Data, DataKind, FuncKind, Func, Table, TableKind, Global, GlobalKind, Tag, ModuleField}
use Rattle.wat_syntax.specs.Tree.inner
use Rattle.wat_syntax.specs.Tree.ty
use Rattle.wat_syntax.specs.Tree.instr
use Rattle.wat_syntax.specs.Tree.tag
use Rattle.wat_syntax.specs.Tree.import_items
use Rattle.wat_syntax.specs.Tree.kind
use Rattle.wat_syntax.specs.Tree.elem
use Rattle.wat_syntax.specs.Tree.payload
use Rattle.wat_syntax.specs.Tree.data_kind
use Rattle.wat_syntax.specs.Tree.func
use Rattle.wat_syntax.specs.Tree.table
use Rattle.wat_syntax.specs.Tree.global
use Rattle.wat_syntax.specs.Tree.field
use Rattle.wat_syntax.specs.Bare.{bare_id_name, bare_index, bare_index_option, bare_text, bare_ref, bare_vals, bare_param}
use Rattle.wat_syntax.specs.Bare.{bare_function_type, bare_type_use, bare_struct_field, bare_composite, bare_type_def, bare_type, bare_rec}
use Rattle.wat_syntax.specs.Bare.{bare_table_type, bare_tag_type}
use Rattle.wat_syntax.specs.BareFields.{bare_data, bare_data_kind, bare_elem, bare_elem_kind, bare_field, bare_fields, bare_func}
use Rattle.wat_syntax.specs.BareFields.{bare_func_kind, bare_global, bare_global_kind, bare_import_item, bare_import_items, bare_item_kind}
use Rattle.wat_syntax.specs.BareFields.{bare_item_sig, bare_local, bare_payload, bare_table, bare_table_kind, bare_tag}
use Rattle.wat_syntax.specs.BareInstructions.{bare_block, bare_call, bare_expression, bare_instr, bare_try_table}
use Rattle.wat_ready.specs.Shown.{shown_block, shown_call, shown_composite, shown_data, shown_data_kind, shown_elem, shown_elem_kind}
use Rattle.wat_ready.specs.Shown.{shown_expression, shown_field, shown_fields, shown_func, shown_func_kind, shown_function_type}
use Rattle.wat_ready.specs.Shown.{shown_global, shown_global_kind, shown_instr, shown_item, shown_item_kind, shown_item_sig, shown_items}
use Rattle.wat_ready.specs.Shown.{shown_local, shown_param, shown_payload, shown_rec, shown_struct_field, shown_table, shown_table_kind}
use Rattle.wat_ready.specs.Shown.{shown_tag, shown_tag_type, shown_type, shown_type_use}
use Rattle.wat_ready.specs.Erasing.{erased, erased_type, erased_use, erased_fields}

-- Each id keeps its name and its position.
pub name_kept : (n : code.Name) → named_by (bare_id_name n) ≡ named_by n
name_kept (id_name.Written text) = refl
name_kept (id_name.Generated n) = refl

-- A part whose change is two others after one another.
each_both : {A B C : Type 0} (f : A → C) (g : A → B) (h : B → C) → ((x : A) → f x ≡ h (g x)) → (xs : List A) → map f xs ≡ map h (map g xs)
each_both f g h same [] = refl
each_both f g h same (x ∷ xs) = λ i. same x i ∷ each_both f g h same xs i

option_both : {A B C : Type 0} (f : A → C) (g : A → B) (h : B → C) → ((x : A) → f x ≡ h (g x)) → (o : Option A)
    → option_map f o ≡ option_map h (option_map g o)
option_both f g h same None = refl
option_both f g h same (Some x) = ap Some (same x)

-- types
signature_is : (t : FunctionType) → bare_function_type t ≡ shown_function_type (erased_type t)
signature_is t =
    ap (λ (ps : List (Option Id × Option NameAnnotation × ValType)). record { params = ps; results = bare_vals t.results })
    (each_both bare_param (named_param erased.own erased.index) shown_param (λ p. refl) t.params)

use_is : (u : TypeUse FunctionType) → bare_type_use u ≡ shown_type_use (erased_use u)
use_is u =
    ap (λ (o : Option FunctionType). record (bare_type_use u) { inline = o })
    (option_both bare_function_type erased_type shown_function_type signature_is u.inline)

composite_is : (t : InnerTypeKind) → bare_composite t ≡ shown_composite (named_inner erased.own erased.index t)
composite_is (inner.Func t) = ap inner.Func (signature_is t)
composite_is (inner.Struct t) =
    ap (λ (fs : List StructField). inner.Struct (record { fields = fs }))
    (each_both bare_struct_field (named_struct_field erased.own erased.index) shown_struct_field (λ f. refl) t.fields)
composite_is x = refl

type_is : (t : ty.Type) → bare_type t ≡ shown_type (mapped_type erased t)
type_is t = ap (λ (k : InnerTypeKind). record (bare_type t) { def = record (bare_type_def t.def) { kind = k } }) (composite_is t.def.kind)

rec_is : (r : Rec) → bare_rec r ≡ shown_rec (mapped_rec erased r)
rec_is r = λ i. record { span = r.span; types = each_both bare_type (mapped_type erased) shown_type type_is r.types i }

tag_type_is : (t : TagType) → bare_tag_type t ≡ shown_tag_type (mapped_tag_type erased t)
tag_type_is (tag.Exception u) = ap tag.Exception (use_is u)

-- instructions, of which those with a type use have the names of parameters
call_is : (c : CallIndirect) → bare_call c ≡ shown_call (mapped_indirect erased c)
call_is c = ap (λ (u : TypeUse FunctionType). record (bare_call c) { ty = u }) (use_is c.ty)

block_is : (b : BlockType) → bare_block b ≡ shown_block (mapped_block erased b)
block_is b = ap (λ (u : TypeUse FunctionType). record (bare_block b) { ty = u }) (use_is b.ty)

instr_is : (h : BodyContext) (i : Instruction) → bare_instr i ≡ shown_instr (mapped_instr erased h i)
instr_is h (instr.block x) = ap instr.block (block_is x)
instr_is h (instr.loop_ x) = ap instr.loop_ (block_is x)
instr_is h (instr.if_ x) = ap instr.if_ (block_is x)
instr_is h (instr.try_ x) = ap instr.try_ (block_is x)
instr_is h (instr.try_table x) = ap (λ (b : BlockType). instr.try_table (record (bare_try_table x) { block = b })) (block_is x.block)
instr_is h (instr.call_indirect x) = ap instr.call_indirect (call_is x)
instr_is h (instr.return_call_indirect x) = ap instr.return_call_indirect (call_is x)
instr_is h i = refl

instrs_are : (h : BodyContext) (is : List Instruction) → map bare_instr is ≡ map shown_instr (mapped_instrs erased h is)
instrs_are h [] = refl
instrs_are h (i ∷ is) = λ t. instr_is h i t ∷ instrs_are (context_after h i) is t

expression_is : (h : BodyContext) (e : Expression) → bare_expression e ≡ shown_expression (mapped_expression erased h e)
expression_is h e = λ i. record { instrs = instrs_are h e.instrs i; branch_hints = e.branch_hints }

constant_is : (e : Expression) → bare_expression e ≡ shown_expression (mapped_constant erased e)
constant_is e = expression_is constant_context e

-- imports
item_kind_is : (k : ItemKind) → bare_item_kind k ≡ shown_item_kind (mapped_item_kind erased k)
item_kind_is (kind.Func u) = ap kind.Func (use_is u)
item_kind_is (kind.FuncExact u) = ap kind.FuncExact (use_is u)
item_kind_is (kind.Tag t) = ap kind.Tag (tag_type_is t)
item_kind_is x = refl

sig_is : (s : ItemSig) → bare_item_sig s ≡ shown_item_sig (mapped_sig erased s)
sig_is s = ap (λ (k : ItemKind). record (bare_item_sig s) { kind = k }) (item_kind_is s.kind)

abbrev Named : Type 0
Named = Bor (List ℕ) × ItemSig

import_items_are : (x : ImportItems) → bare_import_items x ≡ shown_items (mapped_import_items erased x)
import_items_are (import_items.Single source name sig) = ap (import_items.Single (bare_text source) (bare_text name)) (sig_is sig)
import_items_are (import_items.Group1 source items) =
    ap (import_items.Group1 (bare_text source))
    (each_both bare_import_item (λ (p : Named). (p.0, mapped_sig erased p.1)) shown_item
    (λ p. ap (λ (s : ItemSig). (bare_text p.0, s)) (sig_is p.1)) items)
import_items_are (import_items.Group2 source sig []) = ap (λ (s : ItemSig). import_items.Group2 (bare_text source) s []) (sig_is sig)
import_items_are (import_items.Group2 source sig (name ∷ names)) =
    ap (λ (s : ItemSig). import_items.Group2 (bare_text source) s (map bare_text (name ∷ names))) (sig_is sig)

-- functions
func_kind_is : (u : TypeUse FunctionType) (k : FuncKind) → bare_func_kind k ≡ shown_func_kind (mapped_func_kind erased u k)
func_kind_is u (func.Import source exact) = refl
func_kind_is u (func.Inline locals e) =
    λ i. func.Inline (each_both bare_local (mapped_local erased) shown_local (λ l. refl) locals i)
    (expression_is (body_here u (param_marks u.inline ++ local_marks locals)) e i)

func_is : (f : Func) → bare_func f ≡ shown_func (mapped_func erased f)
func_is f = λ i. record (bare_func f) { kind = func_kind_is f.ty f.kind i; ty = use_is f.ty i }

-- segments
payload_is : (p : ElemPayload) → bare_payload p ≡ shown_payload (mapped_payload erased p)
payload_is (payload.Indices is) = refl
payload_is (payload.Exprs t es) =
    ap (payload.Exprs (bare_ref t)) (each_both bare_expression (mapped_constant erased) shown_expression constant_is es)

elem_kind_is : (k : ElemKind) → bare_elem_kind k ≡ shown_elem_kind (mapped_elem_kind erased k)
elem_kind_is (elem.Active x e) = ap (elem.Active (bare_index_option x)) (constant_is e)
elem_kind_is x = refl

elem_is : (e : Elem) → bare_elem e ≡ shown_elem (mapped_elem erased e)
elem_is e = λ i. record (bare_elem e) { kind = elem_kind_is e.kind i; payload = payload_is e.payload i }

data_kind_is : (k : DataKind) → bare_data_kind k ≡ shown_data_kind (mapped_data_kind erased k)
data_kind_is data_kind.Passive = refl
data_kind_is (data_kind.Active x e) = ap (data_kind.Active (bare_index x)) (constant_is e)

data_is : (d : Data) → bare_data d ≡ shown_data (mapped_data erased d)
data_is d = ap (λ (k : DataKind). record (bare_data d) { kind = k }) (data_kind_is d.kind)

-- tables, globals and tags
table_kind_is : (k : TableKind) → bare_table_kind k ≡ shown_table_kind (mapped_table_kind erased k)
table_kind_is (table.Import source t) = refl
table_kind_is (table.Normal t init) =
    ap (table.Normal (bare_table_type t)) (option_both bare_expression (mapped_constant erased) shown_expression constant_is init)
table_kind_is (table.Inline t is64 shared p) = ap (table.Inline (bare_ref t) is64 shared) (payload_is p)

table_is : (t : Table) → bare_table t ≡ shown_table (mapped_table erased t)
table_is t = ap (λ (k : TableKind). record (bare_table t) { kind = k }) (table_kind_is t.kind)

global_kind_is : (k : GlobalKind) → bare_global_kind k ≡ shown_global_kind (mapped_global_kind erased k)
global_kind_is (global.Import source) = refl
global_kind_is (global.Inline e) = ap global.Inline (constant_is e)

global_is : (g : Global) → bare_global g ≡ shown_global (mapped_global erased g)
global_is g = ap (λ (k : GlobalKind). record (bare_global g) { kind = k }) (global_kind_is g.kind)

tag_is : (t : Tag) → bare_tag t ≡ shown_tag (mapped_tag erased t)
tag_is t = ap (λ (u : TagType). record (bare_tag t) { ty = u }) (tag_type_is t.ty)

-- fields
pub field_is : (x : ModuleField) → bare_field x ≡ shown_field (mapped_field erased x)
field_is (field.Ty t) = ap field.Ty (type_is t)
field_is (field.Rec r) = ap field.Rec (rec_is r)
field_is (field.Import i) = λ t. field.Import (record { span = i.span; items = import_items_are i.items t })
field_is (field.Func f) = ap field.Func (func_is f)
field_is (field.Table t) = ap field.Table (table_is t)
field_is (field.Global g) = ap field.Global (global_is g)
field_is (field.Elem e) = ap field.Elem (elem_is e)
field_is (field.Data d) = ap field.Data (data_is d)
field_is (field.Tag t) = ap field.Tag (tag_is t)
field_is x = refl

pub bare_is_erased : (xs : List ModuleField) → bare_fields xs ≡ shown_fields (erased_fields xs)
bare_is_erased xs = each_both bare_field (mapped_field erased) shown_field field_is xs
