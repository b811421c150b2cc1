-- The sections of a module do not depend on the addresses of names and strings.
--
-- An entry has the bytes of a name or a string. For example, `(export "a" (func 0))` is the entry with the name "a", wherever the text
-- "a" is.
use Rattle.std.proofs.Common.{◌≡◌, List, [], ◌∷◌, map, length, ◌==◌, not, Option, Some, None, option_map, refl, ap, ◌∙◌, arith}
use Rattle.std.proofs.lemmas.Grind.{common_steps}
use Rattle.std.specs.Prelude.{◌||◌, if◌then◌else◌}
use Rattle.std.specs.List.{flat_map, list_any}
use Rattle.wasm_out.specs.Bodies.{Body}
use Rattle.wasm_out.specs.DataSegments.{Placed, DataEntry}
use Rattle.wasm_out.specs.ElementSegments.{Active}
use Rattle.wast_base.specs.Spaces.{same_space}
use Rattle.wast_tree_nodes.specs.Imports.{item_sigs}
use Rattle.wast_tree_nodes.specs.Instrs.{needs_data_count}
use Rattle.wast_core_conv.specs.FieldEntries.{as_imports, table_of, memory_of, value_of}
use Rattle.wast_core_conv.specs.Values.{index_value, as_block_type, use_as_block, as_val_type, as_field_type, as_inner_type, as_sub_type}
use Rattle.wast_core_conv.specs.Values.{as_tag_type, as_entity_type, as_instr, as_expression, as_body}
use Rattle.wast_core_name_section.specs.GivenNames.{named_from}
use Rattle.wast_core_name_section.proofs.Each.{each_like}
use Rattle.wast_core_sections.specs.DataCounts.{instrs_of, body_needs_count, needs_count}
use Rattle.wast_core_sections.specs.Hints.{if_hinted, imported_func, functions_in, hinted_functions}
use Rattle.wast_core_sections.specs.Sections.{contribution_of, no_contribution, as_data, as_element_mode, as_element_items, as_data_mode}
use Rattle.wast_core.proofs.ToldTypes.{each_alike, option_alike}
use Rattle.wat_syntax.specs.Tree.{Id, Index, NameAnnotation, ValType, StructField, FunctionType, InnerTypeKind, TypeDef, BlockType}
use Rattle.wat_syntax.specs.Tree.{Instruction, Expression, TagType, ItemKind, ImportItems, Local, FuncKind, TableKind, MemoryKind}
use Rattle.wat_syntax.specs.Tree.{GlobalKind, ElemKind, ElemPayload, Data, DataKind, ModuleField}
use Rattle.wat_syntax.specs.Tree.space
use Rattle.wat_syntax.specs.Tree.ty
use Rattle.wat_syntax.specs.Tree.instr
use Rattle.wat_syntax.specs.Tree.tag
use Rattle.wat_syntax.specs.Tree.func
use Rattle.wat_syntax.specs.Tree.memory
use Rattle.wat_syntax.specs.Tree.global
use Rattle.wat_syntax.specs.Tree.elem
use Rattle.wat_syntax.specs.Tree.data_kind
use Rattle.wat_syntax.specs.Tree.field
use Rattle.wat_syntax.specs.BareFields.{bare_memory_kind}
use Rattle.wat_ready.specs.Shown.{shown_block, shown_composite, shown_data, shown_data_kind, shown_elem_kind, shown_expression, shown_field}
use Rattle.wat_ready.specs.Shown.{shown_fields, shown_func_kind, shown_function_type, shown_global_kind, shown_instr, shown_item_kind}
use Rattle.wat_ready.specs.Shown.{shown_item_sig, shown_items, shown_local, shown_param, shown_payload, shown_struct_field}
use Rattle.wat_ready.specs.Shown.{shown_table_kind, shown_tag_type, shown_type, shown_type_def}
use Rattle.wat_meaning.proofs.ShownInline.{bytes_shown}
use Rattle.wat_meaning.proofs.ShownItems.{kind_space, sigs_shown}

-- types
abbrev Param : Type 0
Param = Option Id × Option NameAnnotation × ValType

params_same : (ps : List Param) → map (λ (p : Param). as_val_type p.2) (map shown_param ps) ≡ map (λ (p : Param). as_val_type p.2) ps
params_same ps = each_alike shown_param (λ p. as_val_type p.2) (λ p. refl) ps

fields_same : (fs : List StructField) → map as_field_type (map shown_struct_field fs) ≡ map as_field_type fs
fields_same fs = each_alike shown_struct_field as_field_type (λ f. refl) fs

inner_same : (t : InnerTypeKind) → as_inner_type (shown_composite t) ≡ as_inner_type t
inner_same t = grind (arith, common_steps, params_same, fields_same)

def_same : (d : TypeDef) → as_sub_type (shown_type_def d) ≡ as_sub_type d
def_same d = grind (arith, common_steps, inner_same)

group_same : (ts : List ty.«Type»)
    → map (λ (t : ty.«Type»). as_sub_type t.def) (map shown_type ts) ≡ map (λ (t : ty.«Type»). as_sub_type t.def) ts
group_same ts = each_alike shown_type (λ t. as_sub_type t.def) (λ t. def_same t.def) ts

tag_same : (t : TagType) → as_tag_type (shown_tag_type t) ≡ as_tag_type t
tag_same (tag.Exception u) = refl

entity_same : (k : ItemKind) → as_entity_type (shown_item_kind k) ≡ as_entity_type k
entity_same k = grind (arith, common_steps, tag_same)

import_same : (x : ImportItems) → as_imports (shown_items x) ≡ as_imports x
import_same x = grind (arith, common_steps, entity_same)

-- bodies
use_same : (i : Option Index) (t : Option FunctionType) → use_as_block i (option_map shown_function_type t) ≡ use_as_block i t
use_same (Some i) t = refl
use_same None None = refl
use_same None (Some t) = refl

block_same : (b : BlockType) → as_block_type (shown_block b) ≡ as_block_type b
block_same b = use_same b.ty.index b.ty.inline

instr_same : (i : Instruction) → as_instr (shown_instr i) ≡ as_instr i
instr_same (instr.block b) = grind (arith, common_steps, block_same)
instr_same (instr.loop_ b) = grind (arith, common_steps, block_same)
instr_same (instr.if_ b) = grind (arith, common_steps, block_same)
instr_same (instr.try_ b) = grind (arith, common_steps, block_same)
instr_same (instr.try_table t) = grind (arith, common_steps, block_same)
instr_same i = refl

instrs_same : (is : List Instruction) → map as_instr (map shown_instr is) ≡ map as_instr is
instrs_same is = each_alike shown_instr as_instr instr_same is

expression_same : (e : Expression) → as_expression (shown_expression e) ≡ as_expression e
expression_same e = instrs_same e.instrs

locals_same : (ls : List Local) → map (λ (l : Local). as_val_type l.ty) (map shown_local ls) ≡ map (λ (l : Local). as_val_type l.ty) ls
locals_same ls = each_alike shown_local (λ l. as_val_type l.ty) (λ l. refl) ls

body_same : (k : FuncKind) → as_body (shown_func_kind k) ≡ as_body k
body_same (func.Import source exact) = refl
body_same (func.Inline locals e) = λ i. record { locals = locals_same locals i; instrs = instrs_same e.instrs i }

-- tables, memories, globals and segments
init_same : (o : Option Expression) → option_map as_expression (option_map shown_expression o) ≡ option_map as_expression o
init_same o = option_alike shown_expression as_expression expression_same o

table_same : (k : TableKind) → table_of (shown_table_kind k) ≡ table_of k
table_same k = grind (arith, common_steps, init_same)

memory_same : (k : MemoryKind) → memory_of (bare_memory_kind k) ≡ memory_of k
memory_same (memory.Import source t) = refl
memory_same x = refl

value_same : (k : GlobalKind) → value_of (shown_global_kind k) ≡ value_of k
value_same (global.Import source) = refl
value_same (global.Inline e) = expression_same e

mode_same : (k : ElemKind) → as_element_mode (shown_elem_kind k) ≡ as_element_mode k
mode_same elem.Passive = refl
mode_same elem.Declared = refl
mode_same (elem.Active x e) = ap (Active (option_map index_value x)) (expression_same e)

expressions_same : (es : List Expression) → map as_expression (map shown_expression es) ≡ map as_expression es
expressions_same es = each_alike shown_expression as_expression expression_same es

items_same : (p : ElemPayload) → as_element_items (shown_payload p) ≡ as_element_items p
items_same p = grind (arith, common_steps, expressions_same)

place_same : (k : DataKind) → as_data_mode (shown_data_kind k) ≡ as_data_mode k
place_same data_kind.Passive = refl
place_same (data_kind.Active x e) = ap (Placed (index_value x)) (expression_same e)

data_same : (d : Data) → as_data (shown_data d) ≡ as_data d
data_same d = λ i. record { mode = place_same d.kind i; bytes = bytes_shown d.bytes i }

-- what a field adds to the sections
pub contributed_same : (x : ModuleField) → contribution_of (shown_field x) ≡ contribution_of x
contributed_same (field.Data d) = ap (λ (e : DataEntry). record no_contribution { «data» = e ∷ [] }) (data_same d)
contributed_same x =
    grind (
      arith,
      common_steps,
      def_same,
      group_same,
      import_same,
      body_same,
      table_same,
      memory_same,
      value_same,
      mode_same,
      items_same,
      tag_same,
    )

-- branch hints
hints_same : (k : FuncKind) → if_hinted (shown_func_kind k) ≡ if_hinted k
hints_same (func.Import source exact) = refl
hints_same (func.Inline locals e) =
    ap (λ (b : Body). if not (length e.branch_hints == 0) then Some (record { body = b; hints = e.branch_hints }) else None)
    (body_same (func.Inline locals e))

imported_same : (x : ImportItems) → flat_map imported_func (item_sigs (shown_items x)) ≡ flat_map imported_func (item_sigs x)
imported_same x =
    ap (flat_map imported_func) (sigs_shown x)
    ∙ each_like shown_item_sig imported_func imported_func
    (λ s. ap (λ k. if same_space space.Func k then None ∷ [] else []) (kind_space s.kind)) (item_sigs x)

functions_same : (x : ModuleField) → functions_in (shown_field x) ≡ functions_in x
functions_same (field.Func f) = ap (λ o. o ∷ []) (hints_same f.kind)
functions_same (field.Import x) = imported_same x.items
functions_same x = refl

pub hinted_same : (xs : List ModuleField) → hinted_functions (shown_fields xs) ≡ hinted_functions xs
hinted_same xs = ap (named_from 0) (each_like shown_field functions_in functions_in functions_same xs)

-- the data count
need_same : (i : Instruction) → needs_data_count (shown_instr i) ≡ needs_data_count i
need_same i = grind (arith, common_steps)

needs_same : (is : List Instruction) → list_any needs_data_count (map shown_instr is) ≡ list_any needs_data_count is
needs_same [] = refl
needs_same (i ∷ is) = λ t. need_same i t || needs_same is t

body_need : (k : FuncKind) → list_any needs_data_count (instrs_of (shown_func_kind k)) ≡ list_any needs_data_count (instrs_of k)
body_need (func.Import source exact) = refl
body_need (func.Inline locals e) = needs_same e.instrs

field_need : (x : ModuleField) → body_needs_count (shown_field x) ≡ body_needs_count x
field_need (field.Func f) = body_need f.kind
field_need x = refl

pub count_same : (xs : List ModuleField) → needs_count (shown_fields xs) ≡ needs_count xs
count_same [] = refl
count_same (x ∷ xs) = λ i. field_need x i || count_same xs i
