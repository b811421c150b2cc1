-- The sites of a module do not depend on the addresses of names and strings, apart from those in a type use.
--
--   (func (param (@name "a") i32))      one site: the type use, with "a" at the address that it has in the module
use Rattle.std.specs.Prelude.{not, Option, Some, None}
use Rattle.std.specs.List.{flat_map}
use Rattle.std.specs.Borrow.{Bor}
use Rattle.std.proofs.Common.{◌≡◌, ℕ, List, [], ◌∷◌, ◌++◌, map, refl, ap, ◌∙◌, arith}
use Rattle.std.proofs.lemmas.Grind.{common_steps}
use Rattle.std.proofs.lemmas.List.{length-map}
use Rattle.wast_base.specs.Ids.{Name, Mark, mark_of_option}
use Rattle.wast_base.specs.Blocks.{Blocks, is_balanced}
use Rattle.wast_base.specs.Spaces.{name_if}
use Rattle.wast_tree_nodes.specs.Clauses.{hints_stand, stand_from, is_segment_type_allowed}
use Rattle.wast_tree_nodes.specs.Instrs.{turn_of, block_effects}
use Rattle.wast_tree_nodes.specs.Sites.{Check, Clause, Covered, BodyContext, constant_context, Where, OfItem, OfBlock, Site, Asked, Used}
use Rattle.wast_tree_nodes.specs.Sites.{Declared, LabelAt, Begins, context_after_site, after_all, check_sites, if_there, uncovered_check}
use Rattle.wast_tree_nodes.specs.Sites.{at_index, at_label, in_heap, in_ref, in_pair, in_mem_arg, in_select, in_cast, in_handlers, in_use}
use Rattle.wast_tree_nodes.specs.Sites.{in_caught, in_catch, in_handle, in_try_table, in_br_table, in_instr, context_after, in_instrs}
use Rattle.wast_tree_nodes.specs.Sites.{in_expression, in_constant, in_local, param_marks, local_marks, declaration_sites, body_here}
use Rattle.wast_tree_nodes.specs.Sites.{in_func_kind, in_func, in_table_type, in_global_type, in_tag_type, in_item_kind, in_sig}
use Rattle.wast_tree_nodes.specs.Sites.{in_shared_id, in_import, in_payload, in_table_kind, in_memory_kind, in_global_kind, in_global}
use Rattle.wast_tree_nodes.specs.Sites.{in_elem_kind, in_elem, in_type, in_rec, in_data_kind, in_subsection, in_custom, in_field, in_module}
use Rattle.wast_tree_nodes.specs.Sites.{asked_in, checks_of}
use Rattle.wat_syntax.specs.Tree.{Id, TryTable, TryTableCatch, BrTableIndices, Handle, ResumeTable, RefType, Index, TypeUse, FunctionType}
use Rattle.wat_syntax.specs.Tree.{Instruction, Expression, Local, FuncKind, Func, ItemKind, ItemSig, ImportItems, TagType, TableKind}
use Rattle.wat_syntax.specs.Tree.{MemoryKind, GlobalKind, Global, ElemKind, ElemPayload, Elem, DataKind, Custom, Dylink0Subsection}
use Rattle.wat_syntax.specs.Tree.{ModuleField}
use Rattle.wat_syntax.specs.Tree.form
use Rattle.wat_syntax.specs.Tree.space
use Rattle.wat_syntax.specs.Tree.handle
use Rattle.wat_syntax.specs.Tree.instr
use Rattle.wat_syntax.specs.Tree.func
use Rattle.wat_syntax.specs.Tree.tag
use Rattle.wat_syntax.specs.Tree.kind
use Rattle.wat_syntax.specs.Tree.import_items
use Rattle.wat_syntax.specs.Tree.table
use Rattle.wat_syntax.specs.Tree.memory
use Rattle.wat_syntax.specs.Tree.global
use Rattle.wat_syntax.specs.Tree.elem
use Rattle.wat_syntax.specs.Tree.payload
use Rattle.wat_syntax.specs.Tree.data_kind
use Rattle.wat_syntax.specs.Tree.custom
use Rattle.wat_syntax.specs.Tree.dylink
use Rattle.wat_syntax.specs.Tree.field
use Rattle.wat_syntax.specs.Bare.{bare_text}
use Rattle.wat_syntax.specs.BareFields.{bare_custom, bare_memory_kind, bare_subsection}
use Rattle.wat_ready.specs.Shown.{shown_data_kind, shown_elem, shown_elem_kind, shown_expression, shown_field, shown_fields, shown_func}
use Rattle.wat_ready.specs.Shown.{shown_func_kind, shown_global, shown_global_kind, shown_instr, shown_item, shown_item_kind, shown_items}
use Rattle.wat_ready.specs.Shown.{shown_local, shown_payload, shown_rec, shown_table_kind, shown_tag_type, shown_try_table, shown_type}
use Rattle.wat_ready.specs.Shown.{shown_type_use}
use Rattle.wat_ready.specs.ShownSites.{shown_context, shown_site}
use Rattle.wat_ready.proofs.ShownLists.{map_same, flat_same, flat_changed, option_changed, both_changed}
use Rattle.wat_ready.proofs.ShownTypeParts.{use_asks, params_shown, type_asks, rec_asks, locals_asks, locals_shown}

-- Checks are as before.
pub asked_shown : (asks : List Check) → check_sites asks ≡ map shown_site (check_sites asks)
asked_shown [] = refl
asked_shown (a ∷ asks) = λ i. Asked a ∷ asked_shown asks i

-- the same for the checks of a changed part
asks_shown : (new old : List Check) → new ≡ old → check_sites new ≡ map shown_site (check_sites old)
asks_shown new old same = ap check_sites same ∙ asked_shown old

-- Sites in lists of indices, labels, catch clauses and handlers are as before.
flat_shown : {A : Type 0} (f : A → List Site) → ((x : A) → f x ≡ map shown_site (f x)) → (xs : List A)
    → flat_map f xs ≡ map shown_site (flat_map f xs)
flat_shown f same [] = refl
flat_shown f same (x ∷ xs) = both_changed shown_site (f x) (flat_map f xs) (f x) (flat_map f xs) (same x) (flat_shown f same xs)

catch_shown : (blocks : Blocks) (c : TryTableCatch) → in_catch blocks c ≡ map shown_site (in_catch blocks c)
catch_shown blocks c = both_changed shown_site (check_sites (in_caught c.kind)) (at_label blocks c.label) _ _ (asked_shown (in_caught c.kind)) refl

handle_shown : (blocks : Blocks) (x : Handle) → in_handle blocks x ≡ map shown_site (in_handle blocks x)
handle_shown blocks (handle.OnLabel e l) = refl
handle_shown blocks (handle.OnSwitch e) = refl

-- two parts that are as before
pair_shown : (xs ys : List Site) → xs ≡ map shown_site xs → ys ≡ map shown_site ys → xs ++ ys ≡ map shown_site (xs ++ ys)
pair_shown xs ys a b = both_changed shown_site xs ys xs ys a b

-- `try_table`, `br_table`, branches on casts, and the handlers of `resume`.
use_before : (w : Where) (u : TypeUse FunctionType) (ss ts : List Site) → ss ≡ map shown_site ts
    → in_use w (shown_type_use u) ++ ss ≡ map shown_site (in_use w u ++ ts)
use_before w u ss ts e = λ i. Used w (shown_type_use u) ∷ e i

catches_shown : (blocks : Blocks) (cs : List TryTableCatch)
    → flat_map (in_catch blocks) cs ≡ map shown_site (flat_map (in_catch blocks) cs)
catches_shown blocks cs = flat_shown (in_catch blocks) (catch_shown blocks) cs

try_table_shown : (blocks : Blocks) (t : TryTable) → in_try_table blocks (shown_try_table t) ≡ map shown_site (in_try_table blocks t)
try_table_shown blocks t =
    let begin = Begins blocks (mark_of_option t.block.label) ∷ [] in
    let rest = flat_map (in_catch blocks) t.catches ++ begin in
    use_before OfBlock t.block.ty rest rest (pair_shown (flat_map (in_catch blocks) t.catches) begin (catches_shown blocks t.catches) refl)

br_table_shown : (blocks : Blocks) (t : BrTableIndices) → in_br_table blocks t ≡ map shown_site (in_br_table blocks t)
br_table_shown blocks t =
    pair_shown (flat_map (at_label blocks) t.labels) (at_label blocks t.default) (flat_shown (at_label blocks) (λ l. refl) t.labels) refl

cast_shown : (blocks : Blocks) (l : Index) (to from : RefType) → in_cast blocks l to from ≡ map shown_site (in_cast blocks l to from)
cast_shown blocks l to from = λ i. LabelAt blocks l ∷ asked_shown (in_ref to ++ in_ref from) i

uncovered_cast_shown : (blocks : Blocks) (l : Index) (to from : RefType)
    → in_cast blocks l to from ++ check_sites (uncovered_check form.Descriptor)
    ≡ map shown_site (in_cast blocks l to from ++ check_sites (uncovered_check form.Descriptor))
uncovered_cast_shown blocks l to from =
    pair_shown (in_cast blocks l to from) (check_sites (uncovered_check form.Descriptor)) (cast_shown blocks l to from) refl

handlers_shown : (blocks : Blocks) (t : ResumeTable) → in_handlers blocks t ≡ map shown_site (in_handlers blocks t)
handlers_shown blocks t =
    pair_shown (flat_map (in_handle blocks) t.handlers) (check_sites (uncovered_check form.StackSwitching))
    (flat_shown (in_handle blocks) (handle_shown blocks) t.handlers) refl

resume_shown : (blocks : Blocks) (x : Index) (t : ResumeTable)
    → at_index space.Ty x ++ in_handlers blocks t ≡ map shown_site (at_index space.Ty x ++ in_handlers blocks t)
resume_shown blocks x t = pair_shown (at_index space.Ty x) (in_handlers blocks t) refl (handlers_shown blocks t)

-- An instruction. Most have checks, locals and labels alone, which are as before.
pub instr_shown : (h : BodyContext) (i : Instruction) → in_instr (shown_context h) (shown_instr i) ≡ map shown_site (in_instr h i)
instr_shown h (instr.Mem op m) = asked_shown (in_mem_arg m)
instr_shown h (instr.MemLane op a) = asked_shown (in_mem_arg a.memarg)
instr_shown h (instr.try_table t) = try_table_shown h.blocks t
instr_shown h (instr.br_table t) = br_table_shown h.blocks t
instr_shown h (instr.select t) = asked_shown (in_select t)
instr_shown h (instr.ref_null t) = asked_shown (in_heap t)
instr_shown h (instr.ref_test a) = asked_shown (in_ref a.rt)
instr_shown h (instr.ref_cast a) = asked_shown (in_ref a.rt)
instr_shown h (instr.ref_cast_desc_eq a) = asked_shown (in_ref a.rt ++ uncovered_check form.Descriptor)
instr_shown h (instr.br_on_cast a) = cast_shown h.blocks a.label a.to_type a.from_type
instr_shown h (instr.br_on_cast_fail a) = cast_shown h.blocks a.label a.to_type a.from_type
instr_shown h (instr.br_on_cast_desc_eq a) = uncovered_cast_shown h.blocks a.label a.to_type a.from_type
instr_shown h (instr.br_on_cast_desc_eq_fail a) = uncovered_cast_shown h.blocks a.label a.to_type a.from_type
instr_shown h (instr.resume a) = resume_shown h.blocks a.type_index a.table
instr_shown h (instr.resume_throw_ref a) = resume_shown h.blocks a.type_index a.table
instr_shown h (instr.resume_throw a) =
    pair_shown (check_sites (in_pair space.Ty a.type_index space.Tag a.tag_index)) (in_handlers h.blocks a.table) refl
    (handlers_shown h.blocks a.table)
instr_shown h i = refl

-- The surroundings of the next instruction.
after_site_shown : (h : BodyContext) (s : Site)
    → context_after_site (shown_context h) (shown_site s) ≡ shown_context (context_after_site h s)
after_site_shown h (Asked a) = refl
after_site_shown h x = refl

after_shown : (h : BodyContext) (ss : List Site) → after_all (shown_context h) (map shown_site ss) ≡ shown_context (after_all h ss)
after_shown h [] = refl
after_shown h (s ∷ ss) = ap (λ g. after_all g (map shown_site ss)) (after_site_shown h s) ∙ after_shown (context_after_site h s) ss

pub next_shown : (h : BodyContext) (i : Instruction) → context_after (shown_context h) (shown_instr i) ≡ shown_context (context_after h i)
next_shown h i = ap (after_all (shown_context h)) (instr_shown h i) ∙ after_shown h (in_instr h i)

-- Instructions, one after the other.
instrs_shown : (h : BodyContext) (is : List Instruction)
    → in_instrs (shown_context h) (map shown_instr is) ≡ map shown_site (in_instrs h is)
instrs_shown h [] = refl
instrs_shown h (i ∷ is) =
    ap (λ g. in_instr (shown_context h) (shown_instr i) ++ in_instrs g (map shown_instr is)) (next_shown h i)
    ∙ both_changed shown_site (in_instr h i) (in_instrs (context_after h i) is) _ _ (instr_shown h i) (instrs_shown (context_after h i) is)

-- the rule on branch hints, which counts the instructions
hints_shown : (e : Expression) → hints_stand (shown_expression e) ≡ hints_stand e
hints_shown e = ap (λ n. stand_from n 0 e.branch_hints) (length-map e.instrs shown_instr)

-- the body of a function
expression_shown : (h : BodyContext) (e : Expression)
    → in_expression (shown_context h) (shown_expression e) ≡ map shown_site (in_expression h e)
expression_shown h e =
    both_changed shown_site (in_instrs h e.instrs) (Asked (Clause 2 (hints_stand e)) ∷ []) _ _
    (instrs_shown h e.instrs) (λ i. Asked (Clause 2 (hints_shown e i)) ∷ [])

-- a constant expression, whose blocks are balanced or not as before
turn_shown : (i : Instruction) → turn_of (shown_instr i) ≡ turn_of i
turn_shown i = grind (arith, common_steps)

turns_shown : (is : List Instruction) → block_effects (map shown_instr is) ≡ block_effects is
turns_shown is = map_same shown_instr turn_of turn_shown is

constant_shown : (e : Expression) → in_constant (shown_expression e) ≡ map shown_site (in_constant e)
constant_shown e =
    both_changed shown_site (in_instrs constant_context e.instrs) (Asked (Clause 5 (is_balanced (block_effects e.instrs))) ∷ []) _ _
    (instrs_shown constant_context e.instrs) (λ i. Asked (Clause 5 (is_balanced (turns_shown e.instrs i))) ∷ [])

-- A function: its type use, its declarations and its body.
declared_shown : (before : List (Option Name)) (ms : List (Option Mark))
    → declaration_sites before ms ≡ map shown_site (declaration_sites before ms)
declared_shown before [] = refl
declared_shown before (m ∷ ms) = λ i. Declared before m ∷ declared_shown (before ++ name_if m ∷ []) ms i

marks_shown : (u : TypeUse FunctionType) (ls : List Local)
    → param_marks (shown_type_use u).inline ++ local_marks (map shown_local ls) ≡ param_marks u.inline ++ local_marks ls
marks_shown u ls = λ i. params_shown u.inline i ++ locals_shown ls i

func_kind_shown : (u : TypeUse FunctionType) (k : FuncKind)
    → in_func_kind (shown_type_use u) (shown_func_kind k) ≡ map shown_site (in_func_kind u k)
func_kind_shown u (func.Import source exact) = refl
func_kind_shown u (func.Inline ls e) =
    let marks = param_marks u.inline ++ local_marks ls in
    let asks = flat_map in_local ls in
    let new_asks = flat_map in_local (map shown_local ls) in
    let body = in_expression (body_here u marks) e in
    let new_body : List (Option Mark) → List Site = λ ms. in_expression (body_here (shown_type_use u) ms) (shown_expression e) in
    ap (λ (ms : List (Option Mark)). check_sites new_asks ++ (declaration_sites [] ms ++ new_body ms)) (marks_shown u ls)
    ∙ both_changed shown_site (check_sites asks) (declaration_sites [] marks ++ body) _ _ (asks_shown new_asks asks (locals_asks ls))
    (both_changed shown_site (declaration_sites [] marks) body _ _ (declared_shown [] marks) (expression_shown (body_here u marks) e))

func_shown : (f : Func) → in_func (shown_func f) ≡ map shown_site (in_func f)
func_shown f = use_before OfItem f.ty _ (in_func_kind f.ty f.kind) (func_kind_shown f.ty f.kind)

-- An import.
tag_shown : (t : TagType) → in_tag_type (shown_tag_type t) ≡ map shown_site (in_tag_type t)
tag_shown (tag.Exception u) = refl

item_kind_shown : (k : ItemKind) → in_item_kind (shown_item_kind k) ≡ map shown_site (in_item_kind k)
item_kind_shown (kind.Table t) = asked_shown (in_table_type t)
item_kind_shown (kind.Global t) = asked_shown (in_global_type t)
item_kind_shown (kind.Tag t) = tag_shown t
item_kind_shown x = refl

shared_id_shown : (names : List (Bor (List ℕ))) (id : Option Id) → in_shared_id (map bare_text names) id ≡ in_shared_id names id
shared_id_shown [] id = refl
shared_id_shown (name ∷ names) id = refl

import_shown : (m : ImportItems) → in_import (shown_items m) ≡ map shown_site (in_import m)
import_shown (import_items.Single source name sig) = item_kind_shown sig.kind
import_shown (import_items.Group1 source items) =
    let group = check_sites (uncovered_check form.CompactImports) in
    let signature : Bor (List ℕ) × ItemSig → List Site = λ p. in_sig p.1 in
    both_changed shown_site (flat_map signature items) group _ _ (flat_changed shown_item signature shown_site (λ p. item_kind_shown p.1.kind) items) refl
import_shown (import_items.Group2 source sig names) =
    let rest = uncovered_check form.CompactImports in
    let old = in_shared_id names sig.id ++ rest in
    both_changed shown_site (in_sig sig) (check_sites old) _ _ (item_kind_shown sig.kind)
    (asks_shown (in_shared_id (map bare_text names) sig.id ++ rest) old (ap (λ z. z ++ rest) (shared_id_shown names sig.id)))

-- The elements of a segment, tables, memories and globals.
payload_shown : (p : ElemPayload) → in_payload (shown_payload p) ≡ map shown_site (in_payload p)
payload_shown (payload.Indices is) = flat_shown (at_index space.Func) (λ i. refl) is
payload_shown (payload.Exprs ty es) =
    both_changed shown_site (flat_map in_constant es) (check_sites (in_ref ty)) _ _
    (flat_changed shown_expression in_constant shown_site constant_shown es) (asked_shown (in_ref ty))

table_shown : (k : TableKind) → in_table_kind (shown_table_kind k) ≡ map shown_site (in_table_kind k)
table_shown (table.Import source ty) = asked_shown (in_table_type ty)
table_shown (table.Normal ty init) =
    both_changed shown_site (check_sites (in_table_type ty)) (if_there in_constant init) _ _
    (asked_shown (in_table_type ty)) (option_changed shown_expression in_constant shown_site constant_shown init)
table_shown (table.Inline ty is64 shared p) =
    let own = Asked (Covered form.Shared (not shared)) ∷ [] in
    both_changed shown_site (check_sites (in_ref ty)) (in_payload p ++ own) _ _
    (asked_shown (in_ref ty)) (both_changed shown_site (in_payload p) own _ _ (payload_shown p) refl)

memory_shown : (k : MemoryKind) → in_memory_kind (bare_memory_kind k) ≡ map shown_site (in_memory_kind k)
memory_shown (memory.Import source ty) = refl
memory_shown x = refl

global_kind_shown : (k : GlobalKind) → in_global_kind (shown_global_kind k) ≡ map shown_site (in_global_kind k)
global_kind_shown (global.Import source) = refl
global_kind_shown (global.Inline e) = constant_shown e

global_shown : (g : Global) → in_global (shown_global g) ≡ map shown_site (in_global g)
global_shown g =
    both_changed shown_site (check_sites (in_global_type g.ty)) (in_global_kind g.kind) _ _
    (asked_shown (in_global_type g.ty)) (global_kind_shown g.kind)

-- Segments.
allowed_shown : (k : ElemKind) (p : ElemPayload)
    → is_segment_type_allowed (shown_elem_kind k) (shown_payload p) ≡ is_segment_type_allowed k p
allowed_shown (elem.Active table offset) (payload.Indices is) = refl
allowed_shown (elem.Active table offset) (payload.Exprs ty es) = refl
allowed_shown x p = refl

elem_kind_shown : (k : ElemKind) → in_elem_kind (shown_elem_kind k) ≡ map shown_site (in_elem_kind k)
elem_kind_shown elem.Passive = refl
elem_kind_shown elem.Declared = refl
elem_kind_shown (elem.Active None offset) = constant_shown offset
elem_kind_shown (elem.Active (Some i) offset) = λ t. at_index space.Table i ++ constant_shown offset t

elem_shown : (e : Elem) → in_elem (shown_elem e) ≡ map shown_site (in_elem e)
elem_shown e =
    let own = Asked (Clause 4 (is_segment_type_allowed e.kind e.payload)) ∷ [] in
    both_changed shown_site (in_elem_kind e.kind) (in_payload e.payload ++ own) _ _ (elem_kind_shown e.kind)
    (both_changed shown_site (in_payload e.payload) own _ _ (payload_shown e.payload) (λ i. Asked (Clause 4 (allowed_shown e.kind e.payload i)) ∷ []))

data_kind_shown : (k : DataKind) → in_data_kind (shown_data_kind k) ≡ map shown_site (in_data_kind k)
data_kind_shown data_kind.Passive = refl
data_kind_shown (data_kind.Active x e) = λ i. at_index space.Memory x ++ constant_shown e i

-- Custom sections: a subsection is supported or not as before.
subsection_shown : (s : Dylink0Subsection) → in_subsection (bare_subsection s) ≡ in_subsection s
subsection_shown (dylink.MemInfo memory_size memory_align table_size table_align) = refl
subsection_shown x = refl

custom_shown : (c : Custom) → in_custom (bare_custom c) ≡ map shown_site (in_custom c)
custom_shown (custom.Raw section) = refl
custom_shown (custom.Producers producers) = refl
custom_shown (custom.Dylink0 info) =
    asks_shown (flat_map in_subsection (map bare_subsection info.subsections)) (flat_map in_subsection info.subsections)
    (flat_same bare_subsection in_subsection subsection_shown info.subsections)

-- A field, and the list of all fields.
pub field_shown : (x : ModuleField) → in_field (shown_field x) ≡ map shown_site (in_field x)
field_shown (field.Ty t) = asks_shown (in_type (shown_type t)) (in_type t) (type_asks t)
field_shown (field.Rec r) = asks_shown (in_rec (shown_rec r)) (in_rec r) (rec_asks r)
field_shown (field.Import m) = import_shown m.items
field_shown (field.Func f) = func_shown f
field_shown (field.Table t) = table_shown t.kind
field_shown (field.Memory m) = memory_shown m.kind
field_shown (field.Global g) = global_shown g
field_shown (field.Elem e) = elem_shown e
field_shown (field.Data d) = data_kind_shown d.kind
field_shown (field.Tag t) = tag_shown t.ty
field_shown (field.Custom c) = custom_shown c
field_shown x = refl

pub sites_shown : (xs : List ModuleField) → in_module (shown_fields xs) ≡ map shown_site (in_module xs)
sites_shown xs = flat_changed shown_field in_field shown_site field_shown xs

-- The checks of a site, and of all fields, are the same.
asked_same : (s : Site) → asked_in (shown_site s) ≡ asked_in s
asked_same (Used w u) = use_asks u
asked_same x = refl

pub checks_same : (ss : List Site) → checks_of (map shown_site ss) ≡ checks_of ss
checks_same ss = flat_same shown_site asked_in asked_same ss

pub checks_shown : (xs : List ModuleField) → checks_of (in_module (shown_fields xs)) ≡ checks_of (in_module xs)
checks_shown xs = ap checks_of (sites_shown xs) ∙ checks_same (in_module xs)
