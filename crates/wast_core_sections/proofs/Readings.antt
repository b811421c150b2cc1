-- The bytes of an encoded module are read as its parts.
use Rattle.std.proofs.Common.{◌≡◌, ◌<◌, ℕ, Bool, true, false, List, [], ◌∷◌, ◌++◌, map, length, Option, Some, None, option_map, refl}
use Rattle.std.specs.Prelude.{All, IsTrue, codes, if◌then◌else◌}
use Rattle.std.specs.List.{flat_map}
use Rattle.std.specs.Option.{option_to_list}
use Rattle.std.specs.Str.{is_utf8}
use Rattle.std.proofs.lemmas.List.Elements.{All-nil, All-cons, All-map}
use Rattle.std.proofs.lemmas.Str.{is_utf8-from_IsUtf8}
use lib.Utf8.{encode}
use Rattle.wasm_ops.proofs.Everywhere.{all_each, all_one, all_both, all_tested, all_in_flat}
use Rattle.wast_tree_nodes.specs.Sites.{Site, check_sites, uncovered_check, in_id, in_rec, in_sig, in_shared_id, in_import, in_table_type, in_global_type}
use Rattle.wasm_ops.specs.ConstExprs.{HasRowsExpression, IsBalancedExpression}
use Rattle.wasm_out.specs.NameSectionBytes.{NameSubsection}
use Rattle.wasm_out.specs.Parts.{SectionKind, Types, Imports, Functions, Tables, Memories, Tags, Globals, Exports, Elements, Code, Data}
use Rattle.wasm_out.specs.Parts.{Single, Entry, Listed, DataCount, InRangePart, item, table_init}
use Rattle.wasm_out.specs.Readable.{expressions, instructions, names, IsReadable, IsReadablePart}
use Rattle.wasm_out.specs.Reads.{Reads}
use Rattle.wast_core_sections.specs.Tree.{Id, Index, Expression, FuncKind, Func, GlobalType, ImportItems, TableKind, Table, Memory}
use Rattle.wast_core_sections.specs.Tree.{GlobalKind, Global, Tag, Rec, Export, Elem, Custom, ModuleField}
use Rattle.wast_core_sections.specs.Tree as tree
use Rattle.wast_core_sections.specs.Tree.ty
use Rattle.wast_core_sections.specs.Tree.func
use Rattle.wast_core_sections.specs.Tree.form
use Rattle.wast_core_sections.specs.Tree.import_items
use Rattle.wast_core_sections.specs.Tree.table
use Rattle.wast_core_sections.specs.Tree.global
use Rattle.wast_core_sections.specs.Tree.field
use Rattle.wast_core_sections.specs.declared.slots.Slot.{Slot}
use Rattle.wast_core_sections.specs.declared.slots.Slot.TheVariants as slot
use Rattle.wast_core_sections.specs.Writable.{bytes_of, InRangeSlot, InRangeModule}
use Rattle.wast_core_conv.specs.Encodable.{are_encodable, is_entered_site, are_entered, is_encodable_type, is_encodable_kind}
use Rattle.wast_core_conv.specs.Encodable.{is_encodable_import, is_encodable_init, is_encodable_table_kind, is_encodable_table}
use Rattle.wast_core_conv.specs.Encodable.{is_encodable_global_kind, is_encodable_global, is_encodable_elem, is_encodable_data}
use Rattle.wast_core_conv.specs.Encodable.{is_encodable_field, is_encodable}
use Rattle.wast_core_conv.specs.FieldEntries.{as_imports, table_of, value_of}
use Rattle.wast_core_sections.specs.DataCounts.{needs_count, count_parts}
use Rattle.wast_core_sections.specs.Sections as meaning
use Rattle.wasm_out.specs.Hints.{hints_name}
use Rattle.wast_core_conv.specs.Hints.{HintedBody}
use Rattle.wast_core_sections.specs.Hints.{hinted_functions, hints_part}
use Rattle.wast_core_sections.specs.Sections.{Contribution, no_contribution, subsections_of, of_kind, contribution_of, entries_in, entries}
use Rattle.wast_core_sections.specs.Sections.{section_part, start_part, starts_in, in_slot, parts}
use Rattle.wast_core_sections.specs.Utf8Names.{HasUtf8Items, HasUtf8Names}
use Rattle.wast_tree_nodes.specs.Customs.{stands_at, customs_in, customs_at}
use Rattle.wast_core_sections.specs.Tree.{CustomPlace}
use Rattle.wast_core_conv.specs.Customs.{custom_part}
use Rattle.wast_core_name_section.specs.NamesPart.{names_part}
use Rattle.wast_core_sections.specs.Slots.{section_kind, order}
use Rattle.wast_core_conv.proofs.EachPasses.{both_pass, both_true, both_lists}
use Rattle.wast_core_conv.proofs.EntitiesReady.{table_covered, global_covered, kind_covered}
use Rattle.wast_core_conv.proofs.Expressions.{instrs_covered, expression_covered, expression_balanced}
use Rattle.wast_core_conv.proofs.Ready.{type_ready, group_ready, import_ready, func_ready, table_ready, global_ready, elem_ready, data_ready}
use Rattle.wast_core_conv.proofs.Rows.{instrs_rows, expression_rows}
use Rattle.wast_core_conv.proofs.SegmentsReady.{elem_covered, elem_rows, elem_balanced, place_covered, place_rows, place_balanced}
use Rattle.wast_core_conv.proofs.Standing.{body_parts}
use Rattle.wast_core_conv.proofs.TypesReady.{def_covered, locals_covered, types_covered}

-- ---- What an entry is read as.

abbrev IsText : List ℕ → Type 0
IsText text = IsTrue (is_utf8 text)

plain : (k : SectionKind) (e : Entry k) → IsTrue (item k e).is_covered → All HasRowsExpression (instructions k e)
    → All IsBalancedExpression (expressions k e) → All IsText (names k e) → All (IsReadable k) (e ∷ [])
plain k e covered rows balanced name = all_one (IsReadable k) e record { covered = covered; rows = rows; balanced = balanced; name = name }

nothing_more : (k : SectionKind) → All (IsReadable k) []
nothing_more k = All-nil (IsReadable k)

-- An import group is an unsupported construct.
group_fails : (ss : List Site) → are_entered (ss ++ check_sites (uncovered_check form.CompactImports)) ≡ true → ⊥
group_fails ss e = let no = (both_lists is_entered_site ss (check_sites (uncovered_check form.CompactImports)) e).1 in cc

shared_fails : {N : Type 0} (ss : List Site) (names : List N) (id : Option Id)
    → are_entered (ss ++ check_sites (in_shared_id names id ++ uncovered_check form.CompactImports)) ≡ true → ⊥
shared_fails ss [] None e = group_fails ss e
shared_fails ss [] (Some id) e = let no = (both_lists is_entered_site ss (check_sites (in_id id ++ uncovered_check form.CompactImports)) e).1 in cc
shared_fails ss (name ∷ names) id e = group_fails ss e

both_names : (source name : List ℕ) → IsText source × IsText name → All IsText (source ∷ name ∷ [])
both_names source name h = All-cons IsText source (name ∷ []) h.0 (all_one IsText name h.1)

import_read : (i : ImportItems) → are_entered (in_import i) ≡ true → HasUtf8Items i → All (IsReadable Imports) (as_imports i ∷ [])
import_read (import_items.Single source name sig) e h = plain Imports (as_imports (import_items.Single source name sig)) (kind_covered sig.kind e)
    (All-nil HasRowsExpression) (All-nil IsBalancedExpression) (both_names source.now name.now h)
import_read (import_items.Group1 source items) e h = absurd (group_fails (flat_map (λ p. in_sig p.1) items) e)
import_read (import_items.Group2 source sig names) e h = absurd (shared_fails (in_sig sig) names sig.id e)

init_covered : (o : Option Expression) → is_encodable_init o ≡ true → (table_init (option_map meaning.as_expression o)).is_covered ≡ true
init_covered None e = refl
init_covered (Some x) e = expression_covered x e

init_rows : (o : Option Expression) → is_encodable_init o ≡ true → All HasRowsExpression (option_to_list (option_map meaning.as_expression o))
init_rows None e = All-nil HasRowsExpression
init_rows (Some x) e = all_one HasRowsExpression (meaning.as_expression x) (expression_rows x e)

init_balanced : (o : Option Expression) → is_encodable_init o ≡ true → All IsBalancedExpression (option_to_list (option_map meaning.as_expression o))
init_balanced None e = All-nil IsBalancedExpression
init_balanced (Some x) e = all_one IsBalancedExpression (meaning.as_expression x) (expression_balanced x e)

table_read : (k : TableKind) → is_encodable_table_kind k ≡ true → All (IsReadable Tables) (table_of k ∷ [])
table_read (table.Import import ty) e = absurd cc
table_read (table.Inline ty is64 shared elements) e = absurd cc
table_read (table.Normal ty init) e =
    let both = both_pass (are_encodable (in_table_type ty)) (is_encodable_init init) e in
    plain Tables (table_of (table.Normal ty init)) (both_true _ _ (table_covered ty both.0) (init_covered init both.1)) (init_rows init both.1)
    (init_balanced init both.1) (All-nil IsText)

global_read : (t : GlobalType) (k : GlobalKind) → are_encodable (in_global_type t) ≡ true → is_encodable_global_kind k ≡ true
    → All (IsReadable Globals) (record { ty = meaning.as_global_type t; init = value_of k } ∷ [])
global_read t (global.Import import) e f = absurd cc
global_read t (global.Inline x) e f =
    plain Globals (record { ty = meaning.as_global_type t; init = meaning.as_expression x })
    (both_true _ _ (global_covered t e) (expression_covered x f)) (all_one HasRowsExpression (meaning.as_expression x) (expression_rows x f))
    (all_one IsBalancedExpression (meaning.as_expression x) (expression_balanced x f)) (All-nil IsText)

code_read : (k : FuncKind) → is_encodable_kind k ≡ true → All (IsReadable Code) (meaning.as_body k ∷ [])
code_read (func.Import import exact) e = absurd cc
code_read (func.Inline locals x) e =
    let both = body_parts locals x e in
    plain Code (meaning.body_of locals x.instrs) (both_true _ _ (locals_covered locals both.0) (instrs_covered x.instrs both.1))
    (all_one HasRowsExpression (meaning.as_expression x) (instrs_rows x.instrs both.1)) (All-nil IsBalancedExpression) (All-nil IsText)

elem_read : (x : Elem) → is_encodable_elem x ≡ true → All (IsReadable Elements) (meaning.as_element x ∷ [])
elem_read x e = plain Elements (meaning.as_element x) (elem_covered x e) (elem_rows x e) (elem_balanced x e) (All-nil IsText)

data_read : (x : tree.Data) → is_encodable_data x ≡ true → All (IsReadable Data) (meaning.as_data x ∷ [])
data_read x e = plain Data (meaning.as_data x) (place_covered x.kind e) (place_rows x.kind e) (place_balanced x.kind e) (All-nil IsText)

-- ---- What a field adds to the sections is readable.

abbrev AreReadable : Contribution → Type 0
AreReadable c = (k : SectionKind) → All (IsReadable k) (of_kind k c)

type_readable : (t : ty.«Type») → is_encodable_type t ≡ true → AreReadable (contribution_of (field.Ty t))
type_readable t e Types = plain Types (Single (meaning.as_sub_type t.def)) (def_covered t.def e) (All-nil HasRowsExpression)
    (All-nil IsBalancedExpression) (All-nil IsText)
type_readable t e k = nothing_more k

rec_readable : (r : Rec) → are_encodable (in_rec r) ≡ true → AreReadable (contribution_of (field.Rec r))
rec_readable r e Types = plain Types (meaning.as_group r) (types_covered r e) (All-nil HasRowsExpression) (All-nil IsBalancedExpression) (All-nil IsText)
rec_readable r e k = nothing_more k

import_readable : (i : tree.Imports) → is_encodable_import i ≡ true → HasUtf8Items i.items → AreReadable (contribution_of (field.Import i))
import_readable i e h Imports = import_read i.items e h
import_readable i e h k = nothing_more k

func_readable : (f : Func) → is_encodable_kind f.kind ≡ true → AreReadable (contribution_of (field.Func f))
func_readable f e Functions = plain Functions (meaning.type_index f.ty) refl (All-nil HasRowsExpression) (All-nil IsBalancedExpression) (All-nil IsText)
func_readable f e Code = code_read f.kind e
func_readable f e k = nothing_more k

table_readable : (t : Table) → is_encodable_table t ≡ true → AreReadable (contribution_of (field.Table t))
table_readable t e Tables = table_read t.kind e
table_readable t e k = nothing_more k

memory_readable : (m : Memory) → AreReadable (contribution_of (field.Memory m))
memory_readable m Memories = plain Memories (meaning.as_memory m) refl (All-nil HasRowsExpression) (All-nil IsBalancedExpression) (All-nil IsText)
memory_readable m k = nothing_more k

global_readable : (g : Global) → is_encodable_global g ≡ true → AreReadable (contribution_of (field.Global g))
global_readable g e Globals =
    let both = both_pass (are_encodable (in_global_type g.ty)) (is_encodable_global_kind g.kind) e in
    global_read g.ty g.kind both.0 both.1
global_readable g e k = nothing_more k

export_readable : (x : Export) → IsTrue (is_utf8 x.name.now) → AreReadable (contribution_of (field.Export x))
export_readable x h Exports = plain Exports (meaning.as_export x) refl (All-nil HasRowsExpression) (All-nil IsBalancedExpression) (all_one IsText x.name.now h)
export_readable x h k = nothing_more k

start_readable : (i : Index) → AreReadable (contribution_of (field.Start i))
start_readable i Types = nothing_more Types
start_readable i k = nothing_more k

elem_readable : (x : Elem) → is_encodable_elem x ≡ true → AreReadable (contribution_of (field.Elem x))
elem_readable x e Elements = elem_read x e
elem_readable x e k = nothing_more k

data_readable : (x : tree.Data) → is_encodable_data x ≡ true → AreReadable (contribution_of (field.Data x))
data_readable x e Data = data_read x e
data_readable x e k = nothing_more k

tag_readable : (t : Tag) → AreReadable (contribution_of (field.Tag t))
tag_readable t Tags = plain Tags (meaning.as_tag t) refl (All-nil HasRowsExpression) (All-nil IsBalancedExpression) (All-nil IsText)
tag_readable t k = nothing_more k

nothing_readable : AreReadable no_contribution
nothing_readable Types = nothing_more Types
nothing_readable k = nothing_more k

field_readable : (f : ModuleField) → IsTrue (is_encodable_field f) → HasUtf8Names f → AreReadable (contribution_of f)
field_readable (field.Ty t) e h = type_readable t (type_ready t e)
field_readable (field.Rec r) e h = rec_readable r (group_ready r e)
field_readable (field.Import i) e h = import_readable i (import_ready i e) h
field_readable (field.Func f) e h = func_readable f (func_ready f e).1
field_readable (field.Table t) e h = table_readable t (table_ready t e)
field_readable (field.Memory m) e h = memory_readable m
field_readable (field.Global g) e h = global_readable g (global_ready g e)
field_readable (field.Export x) e h = export_readable x h
field_readable (field.Start i) e h = start_readable i
field_readable (field.Elem x) e h = elem_readable x (elem_ready x e)
field_readable (field.Data d) e h = data_readable d (data_ready d e)
field_readable (field.Tag t) e h = tag_readable t
field_readable (field.Custom c) e h = nothing_readable

entries_readable : (k : SectionKind) (fields : List ModuleField) → IsTrue (is_encodable fields) → All HasUtf8Names fields
    → All (IsReadable k) (entries k fields)
entries_readable k fields e h = all_in_flat (IsReadable k) (entries_in k) fields
    (all_both (λ f. IsTrue (is_encodable_field f)) HasUtf8Names (λ f. All (IsReadable k) (entries_in k f)) (λ f p q. field_readable f p q k) fields
    (all_tested is_encodable_field fields e) h)

listed_readable : (k : SectionKind) (es : List (Entry k)) → All (IsReadable k) es → All IsReadablePart (section_part k es)
listed_readable k [] h = All-nil IsReadablePart
listed_readable k (x ∷ xs) h = all_one IsReadablePart (record { kind = Listed k; items = x ∷ xs }) h

starts_readable : (fields : List ModuleField) → All IsReadablePart (flat_map starts_in fields)
starts_readable fields = all_in_flat IsReadablePart starts_in fields
    (all_each (λ f. All IsReadablePart (starts_in f)) (λ f. All-map IsReadablePart start_part (contribution_of f).starts
    (all_each (λ n. IsReadablePart (start_part n)) (λ n. tt) (contribution_of f).starts)) fields)

counts_readable : (needed : Bool) (n : ℕ) → All IsReadablePart (count_parts needed n)
counts_readable true n = all_one IsReadablePart (record { kind = DataCount; items = n }) tt
counts_readable false n = All-nil IsReadablePart

name_is_text : is_utf8 (codes "name") ≡ true
unfolding encode
name_is_text = is_utf8-from_IsUtf8 (codes "name") (codes "name", (refl, refl))

names_readable : (ss : List NameSubsection) → All IsReadablePart (names_part ss)
names_readable [] = All-nil IsReadablePart
names_readable (s ∷ ss) = all_one IsReadablePart _ name_is_text

hints_name_is_text : is_utf8 hints_name ≡ true
unfolding encode
hints_name_is_text = is_utf8-from_IsUtf8 hints_name (codes "metadata.code.branch_hint", (refl, refl))

hints_readable : (functions : List (ℕ × HintedBody)) → All IsReadablePart (hints_part functions)
hints_readable [] = All-nil IsReadablePart
hints_readable (f ∷ fs) = all_one IsReadablePart _ hints_name_is_text

customs_readable : (place : CustomPlace) (fields : List ModuleField) → All HasUtf8Names fields → All IsReadablePart (map custom_part (customs_at place fields))
customs_readable place fields h =
    All-map IsReadablePart custom_part (customs_at place fields)
    (all_in_flat (λ c. IsReadablePart (custom_part c)) (customs_in place) fields
    (all_both HasUtf8Names HasUtf8Names (λ f. All (λ c. IsReadablePart (custom_part c)) (customs_in place f)) (λ f p q. each f p) fields h h))
  where
    where_so : (b : Bool) (c : Custom) → IsReadablePart (custom_part c) → All (λ c. IsReadablePart (custom_part c)) (if b then c ∷ [] else [])
    where_so true c h = all_one (λ c. IsReadablePart (custom_part c)) c h
    where_so false c h = All-nil (λ c. IsReadablePart (custom_part c))

    each : (f : ModuleField) → HasUtf8Names f → All (λ c. IsReadablePart (custom_part c)) (customs_in place f)
    each (field.Custom c) h = where_so (stands_at place c) c h
    each f h = All-nil (λ c. IsReadablePart (custom_part c))

slot_readable : (name : Option (List ℕ)) (fields : List ModuleField) → IsTrue (is_encodable fields) → All HasUtf8Names fields → (s : Slot)
    → All IsReadablePart (in_slot name fields s)
slot_readable name fields e h (slot.Custom place) = customs_readable place fields h
slot_readable name fields e h (slot.Section k) = listed_readable (section_kind k) (entries (section_kind k) fields)
    (entries_readable (section_kind k) fields e h)
slot_readable name fields e h slot.Start = starts_readable fields
slot_readable name fields e h slot.DataCount = counts_readable (needs_count fields) (length (entries Data fields))
slot_readable name fields e h slot.Hints = hints_readable (hinted_functions fields)
slot_readable name fields e h slot.Names = names_readable (subsections_of name fields)

pub reads_module : (name : Option (List ℕ)) (fields : List ModuleField) (bytes : List ℕ) → IsTrue (is_encodable fields) → All HasUtf8Names fields
    → InRangeModule name fields → bytes ≡ bytes_of name fields → All (λ x. x < 256) bytes → Reads bytes (parts name fields)
reads_module name fields bytes e h r is small = record {
  in_range = all_in_flat InRangePart (in_slot name fields) order (all_both (InRangeSlot name fields) (InRangeSlot name fields)
      (λ s. All InRangePart (in_slot name fields s)) (λ s p q. p.0) order r r);
  readable = all_in_flat IsReadablePart (in_slot name fields) order (all_each (λ s. All IsReadablePart (in_slot name fields s))
      (slot_readable name fields e h) order);
  spelled = is;
  are_bytes = small;
}
