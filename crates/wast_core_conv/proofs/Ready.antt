-- Fields that are well formed, resolved and desugared may be encoded, if each construct is supported. Fields that may
-- be encoded are resolved, and so are the entries that they add to sections.
use Rattle.std.proofs.Common.{◌≡◌, Bool, true, false, not, ◌&&◌, ◌||◌, List, [], ◌∷◌, refl, sym, ◌∙◌}
use Rattle.std.specs.Prelude.{is_some, Option, Some, None}
use Rattle.std.specs.List.{flat_map, list_all}
use Rattle.wast_base.specs.Ids.{is_number}
use Rattle.wast_tree_nodes.specs.Clauses.{hints_stand, is_segment_type_allowed}
use Rattle.wast_tree_nodes.specs.Types.{says_enough}
use Rattle.wast_tree_nodes.specs.Sites.{Check, ItemIndex, InnerIndex, PlainId, Clause, Covered, OfItem, OfCall, Site, Asked, Used, Declared}
use Rattle.wast_tree_nodes.specs.Sites.{LocalAt, FieldAt, LabelAt, constant_context, check_sites, if_there, at_index, in_type, in_rec}
use Rattle.wast_tree_nodes.specs.Sites.{in_ref, in_type_use, in_use, in_indirect, in_local, in_func, in_func_kind, in_expression}
use Rattle.wast_tree_nodes.specs.Sites.{in_table_type, in_global_type, in_tag_type, in_import, in_constant, in_payload, in_table_kind}
use Rattle.wast_tree_nodes.specs.Sites.{in_global_kind, in_global, in_elem_kind, in_elem, in_data_kind, in_field, in_module, asked_in}
use Rattle.wast_tree_nodes.specs.Sites.{checks_of}
use Rattle.wast_tree_nodes.specs.Items.{items}
use Rattle.wast_tree_nodes.specs.Known.{IdContext, id_context}
use Rattle.wast_tree_nodes.specs.WellFormed.{is_kept, is_well_formed}
use Rattle.wast_tree_nodes.specs.Uncovered.{is_covered_ask, uncovered_in, uncovered_forms, head_of}
use Rattle.wast_tree_nodes.specs.Resolved.{is_numbered, are_numbered, site_passes, is_resolved_site, is_resolved}
use Rattle.wast_tree_nodes.specs.Profiles.{is_imported_func, is_imported_global}
use Rattle.wast_tree_nodes.specs.WrittenOut.{exports_nothing, is_written_table, is_written_field, is_written_out}
use Rattle.wast_core_conv.specs.Tree.{Index, Space, CallIndirect, TypeUse, FunctionType, Expression, Rec, Imports, FuncKind, Func}
use Rattle.wast_core_conv.specs.Tree.{TableKind, Table, Memory, GlobalKind, Global, ElemKind, ElemPayload, Elem, DataKind, Data, Tag}
use Rattle.wast_core_conv.specs.Tree.{ModuleField}
use Rattle.wast_core_conv.specs.Tree.space
use Rattle.wast_core_conv.specs.Tree.ty
use Rattle.wast_core_conv.specs.Tree.func
use Rattle.wast_core_conv.specs.Tree.table
use Rattle.wast_core_conv.specs.Tree.global
use Rattle.wast_core_conv.specs.Tree.elem
use Rattle.wast_core_conv.specs.Tree.payload
use Rattle.wast_core_conv.specs.Tree.data_kind
use Rattle.wast_core_conv.specs.Tree.field
use Rattle.wast_core_conv.specs.Encodable.{is_encodable_ask, are_encodable, is_encodable_site, encodable, is_entered_site, are_entered}
use Rattle.wast_core_conv.specs.Encodable.{is_number_if, is_encodable_code, is_encodable_expression, is_encodable_type}
use Rattle.wast_core_conv.specs.Encodable.{is_encodable_type_use, is_encodable_kind, is_encodable_import, is_encodable_init}
use Rattle.wast_core_conv.specs.Encodable.{is_encodable_table_kind, is_encodable_table, is_encodable_global_kind, is_encodable_global}
use Rattle.wast_core_conv.specs.Encodable.{is_encodable_tag, is_encodable_elem_kind, is_encodable_payload, is_encodable_elem}
use Rattle.wast_core_conv.specs.Encodable.{is_encodable_data_kind, is_encodable_data, is_encodable_field, is_encodable, is_at_rest}
use Rattle.wast_core_conv.specs.Encodable.{are_resolved}
use Rattle.wast_core_conv.specs.Hints.{are_encodable_hints}
use Rattle.wast_core_conv.proofs.EachPasses.{both_pass, both_true, both_lists, each_passes, each_by, each_then}
use Rattle.wast_core_conv.proofs.Standing.{asking_passes, asked_then, encodable_at, code_ready, code_hinted, constant_ready, body_tells}

-- ---- Well formed, resolved and desugared.

pub fields_at_rest : (fields : List ModuleField) → is_well_formed fields ≡ true → is_resolved fields ≡ true → is_written_out fields ≡ true
    → is_at_rest fields ≡ true
fields_at_rest fields kept resolved written = both_true (is_resolved fields) _ resolved (both_true (is_written_out fields) _ written kept)

-- ---- Already resolved and supported.

-- whether the rule of a check holds
abbrev is_met : Check → Bool
is_met (Clause n holds) = holds
is_met a = true

ask_met : (k : IdContext) (a : Check) → is_kept k a ≡ true → is_met a ≡ true
ask_met k (Clause n holds) kept = kept
ask_met k a kept = refl

ask_ready : (a : Check) → (is_met a && is_covered_ask a) ≡ true → is_numbered a ≡ true → is_encodable_ask a ≡ true
ask_ready (ItemIndex s i) kept numbered = numbered
ask_ready (InnerIndex i) kept numbered = numbered
ask_ready (PlainId m) kept numbered = refl
ask_ready (Clause n holds) kept numbered = (both_pass holds true kept).0
ask_ready (Covered form holds) kept numbered = kept

-- A clause holds, and a construct is supported.
abbrev is_kept_here : Check → Bool
is_kept_here a = is_met a && is_covered_ask a

site_ready : (s : Site) → list_all is_kept_here (asked_in s) ≡ true → is_resolved_site s ≡ true → is_encodable_site s ≡ true
site_ready (Asked a) kept resolved = ask_ready a (both_pass (is_kept_here a) true kept).0 resolved
site_ready (Used w u) kept resolved =
    let said = is_some u.index || says_enough w u.inline in
    let both = both_pass said (are_numbered (in_type_use u)) resolved in
    both_true said (are_encodable (in_type_use u)) both.0
    (each_by is_kept_here is_numbered is_encodable_ask ask_ready (in_type_use u) kept both.1)
site_ready (LocalAt locals i) kept resolved = resolved
site_ready (FieldAt owner i) kept resolved = resolved
site_ready (LabelAt blocks i) kept resolved = resolved
site_ready s kept resolved = refl

sites_ready : (sites : List Site) → list_all is_kept_here (checks_of sites) ≡ true → are_resolved sites ≡ true → encodable sites ≡ true
sites_ready sites kept resolved =
    each_by (λ s. list_all is_kept_here (asked_in s)) is_resolved_site is_encodable_site site_ready sites
    (sym (each_passes is_kept_here asked_in sites) ∙ kept) resolved

-- No unsupported construct is found.
forms_covered : (asks : List Check) → head_of (flat_map uncovered_in asks) ≡ None → list_all is_covered_ask asks ≡ true
forms_covered [] e = refl
forms_covered (Covered form true ∷ asks) e = forms_covered asks e
forms_covered (Covered form false ∷ asks) e = absurd cc
forms_covered (a ∷ asks) e = forms_covered asks e

pub fields_ready : (fields : List ModuleField) → is_at_rest fields ≡ true → head_of (uncovered_forms fields) ≡ None → is_encodable fields ≡ true
fields_ready fields rest none =
    let resolved = both_pass (is_resolved fields) _ rest in
    let written = both_pass (is_written_out fields) _ resolved.1 in
    let asks = checks_of (in_module fields) in
    let k = id_context (items fields) in
    let kept = each_by (is_kept k) is_covered_ask is_kept_here (λ a h. both_true (is_met a) (is_covered_ask a) (ask_met k a h)) asks written.1
    (forms_covered asks none) in
    each_by (λ x. encodable (in_field x)) is_written_field is_encodable_field (λ x. both_true (encodable (in_field x)) (is_written_field x)) fields
    (sym (each_passes is_encodable_site in_field fields) ∙ sites_ready (in_module fields) kept resolved.0) written.0

-- ---- What may be encoded is resolved.

ask_numbered : (a : Check) → is_encodable_ask a ≡ true → is_numbered a ≡ true
ask_numbered (ItemIndex s i) h = h
ask_numbered (InnerIndex i) h = h
ask_numbered x h = refl

pub asks_numbered : (asks : List Check) → are_encodable asks ≡ true → are_numbered asks ≡ true
asks_numbered asks h = each_then is_encodable_ask is_numbered ask_numbered asks h

-- A site passes if the tests of its checks follow from tests that it passes.
module _ (alone within next further : Check → Bool) (one : (a : Check) → alone a ≡ true → next a ≡ true) (each : (a : Check) → within a ≡ true
    → further a ≡ true) where
  site_then : (s : Site) → site_passes alone within s ≡ true → site_passes next further s ≡ true
  site_then (Asked a) h = one a h
  site_then (Used w u) h =
      let said = is_some u.index || says_enough w u.inline in
      let both = both_pass said (list_all within (in_type_use u)) h in
      both_true said (list_all further (in_type_use u)) both.0 (each_then within further each (in_type_use u) both.1)
  site_then (LocalAt locals i) h = h
  site_then (FieldAt owner i) h = h
  site_then (LabelAt blocks i) h = h
  site_then s h = refl

site_resolved : (s : Site) → is_encodable_site s ≡ true → is_resolved_site s ≡ true
site_resolved s h = site_then is_encodable_ask is_encodable_ask is_numbered is_numbered ask_numbered ask_numbered s h

pub sites_resolved : (sites : List Site) → encodable sites ≡ true → are_resolved sites ≡ true
sites_resolved sites h = each_then is_encodable_site is_resolved_site site_resolved sites h

-- The table and the type use of an indirect call.
pub indirect_ready : (c : CallIndirect) → encodable (in_indirect c) ≡ true → (is_number c.table ≡ true) × (are_resolved (in_use OfItem c.ty) ≡ true)
indirect_ready c h =
    let parts = both_pass (is_number c.table) (encodable (in_use OfCall c.ty)) h in
    let used = (both_pass (is_encodable_site (Used OfCall c.ty)) true parts.1).0 in
    (parts.0, both_true (is_resolved_site (Used OfItem c.ty)) true (site_resolved (Used OfCall c.ty) used) refl)

-- ---- What a field that may be encoded adds to the sections.

site_entered : (s : Site) → is_encodable_site s ≡ true → is_entered_site s ≡ true
site_entered s h = site_then is_encodable_ask is_encodable_ask is_encodable_ask is_numbered (λ a k. k) ask_numbered s h

sites_entered : (sites : List Site) → encodable sites ≡ true → are_entered sites ≡ true
sites_entered sites h = each_then is_encodable_site is_entered_site site_entered sites h

-- What an entry contains is resolved.
entry_resolved : (s : Site) → is_entered_site s ≡ true → is_resolved_site s ≡ true
entry_resolved s h = site_then is_encodable_ask is_numbered is_numbered is_numbered ask_numbered (λ a k. k) s h

pub entered_resolved : (sites : List Site) → are_entered sites ≡ true → are_resolved sites ≡ true
entered_resolved sites h = each_then is_entered_site is_resolved_site entry_resolved sites h

pub type_ready : (t : ty.«Type») → is_encodable_field (field.Ty t) ≡ true → is_encodable_type t ≡ true
type_ready t e = sym (asking_passes (in_type t)) ∙ (both_pass (encodable (check_sites (in_type t))) true e).0

pub group_ready : (r : Rec) → is_encodable_field (field.Rec r) ≡ true → are_encodable (in_rec r) ≡ true
group_ready r e = sym (asking_passes (in_rec r)) ∙ (both_pass (encodable (check_sites (in_rec r))) true e).0

pub import_ready : (i : Imports) → is_encodable_field (field.Import i) ≡ true → is_encodable_import i ≡ true
import_ready i e = sites_entered (in_import i.items) (both_pass (encodable (in_import i.items)) true e).0

use_ready : (u : TypeUse FunctionType) → encodable (in_use OfItem u) ≡ true → is_encodable_type_use u ≡ true
use_ready u e = (both_pass (is_encodable_type_use u) true (sites_entered (in_use OfItem u) e)).0

body_ready : (u : TypeUse FunctionType) (k : FuncKind) → encodable (in_func_kind u k) ≡ true → not (is_imported_func k) ≡ true → is_encodable_kind k ≡ true
body_ready u (func.Import import exact) e written = written
body_ready u (func.Inline locals x) e written =
    let asks = are_encodable (flat_map in_local locals) in
    let both = both_pass asks (encodable (in_expression constant_context x)) (sym (body_tells u locals x) ∙ e) in
    both_true asks (is_encodable_code x) both.0 (code_ready x both.1)

body_hinted : (u : TypeUse FunctionType) (k : FuncKind) → encodable (in_func_kind u k) ≡ true → not (is_imported_func k) ≡ true → are_encodable_hints k ≡ true
body_hinted u (func.Import import exact) e written = written
body_hinted u (func.Inline locals x) e written =
    let both = both_pass (are_encodable (flat_map in_local locals)) (encodable (in_expression constant_context x)) (sym (body_tells u locals x) ∙ e) in
    both_true (is_encodable_kind (func.Inline locals x)) (hints_stand x) (body_ready u (func.Inline locals x) e written) (code_hinted x both.1)

-- Inline exports do not affect the entry of the item.
first_and_last : (a b c : Bool) → (a && (b && c)) ≡ true → (a ≡ true) × (c ≡ true)
first_and_last a b c e = let outer = both_pass a (b && c) e in (outer.0, (both_pass b c outer.1).1)

pub func_ready : (f : Func) → is_encodable_field (field.Func f) ≡ true → (is_encodable_type_use f.ty ≡ true) × (is_encodable_kind f.kind ≡ true)
func_ready f e =
    let whole = first_and_last (encodable (in_func f)) (exports_nothing f.exports) (not (is_imported_func f.kind)) e in
    let parts = both_lists is_encodable_site (in_use OfItem f.ty) (in_func_kind f.ty f.kind) whole.0 in
    (use_ready f.ty parts.0, body_ready f.ty f.kind parts.1 whole.1)

pub hints_ready : (f : Func) → is_encodable_field (field.Func f) ≡ true → are_encodable_hints f.kind ≡ true
hints_ready f e =
    let whole = first_and_last (encodable (in_func f)) (exports_nothing f.exports) (not (is_imported_func f.kind)) e in
    body_hinted f.ty f.kind (both_lists is_encodable_site (in_use OfItem f.ty) (in_func_kind f.ty f.kind) whole.0).1 whole.1

init_ready : (init : Option Expression) → encodable (if_there in_constant init) ≡ true → is_encodable_init init ≡ true
init_ready None e = refl
init_ready (Some x) e = constant_ready x e

table_kind_ready : (k : TableKind) → encodable (in_table_kind k) ≡ true → is_written_table k ≡ true → is_encodable_table_kind k ≡ true
table_kind_ready (table.Import import ty) e written = written
table_kind_ready (table.Normal ty init) e written =
    let both = asked_then (in_table_type ty) (if_there in_constant init) e in
    both_true (are_encodable (in_table_type ty)) (is_encodable_init init) both.0 (init_ready init both.1)
table_kind_ready (table.Inline ty is64 shared elements) e written = written

pub table_ready : (t : Table) → is_encodable_field (field.Table t) ≡ true → is_encodable_table t ≡ true
table_ready t e =
    let both = first_and_last (encodable (in_table_kind t.kind)) (exports_nothing t.exports) (is_written_table t.kind) e in
    table_kind_ready t.kind both.0 both.1

global_kind_ready : (k : GlobalKind) → encodable (in_global_kind k) ≡ true → not (is_imported_global k) ≡ true → is_encodable_global_kind k ≡ true
global_kind_ready (global.Import import) e written = written
global_kind_ready (global.Inline x) e written = constant_ready x e

pub global_ready : (g : Global) → is_encodable_field (field.Global g) ≡ true → is_encodable_global g ≡ true
global_ready g e =
    let both = first_and_last (encodable (in_global g)) (exports_nothing g.exports) (not (is_imported_global g.kind)) e in
    let parts = asked_then (in_global_type g.ty) (in_global_kind g.kind) both.0 in
    both_true (are_encodable (in_global_type g.ty)) (is_encodable_global_kind g.kind) parts.0 (global_kind_ready g.kind parts.1 both.1)

-- The table or memory that a segment fills, and its offset.
number_ready : (s : Space) (o : Option Index) → encodable (if_there (at_index s) o) ≡ true → is_number_if o ≡ true
number_ready s None e = refl
number_ready s (Some i) e = (both_pass (is_number i) true e).0

elem_kind_ready : (k : ElemKind) → encodable (in_elem_kind k) ≡ true → is_encodable_elem_kind k ≡ true
elem_kind_ready elem.Passive e = refl
elem_kind_ready elem.Declared e = refl
elem_kind_ready (elem.Active table offset) e =
    let both = both_lists is_encodable_site (if_there (at_index space.Table) table) (in_constant offset) e in
    both_true (is_number_if table) (is_encodable_expression offset) (number_ready space.Table table both.0) (constant_ready offset both.1)

payload_ready : (q : ElemPayload) → encodable (in_payload q) ≡ true → is_encodable_payload q ≡ true
payload_ready (payload.Indices is) e = sym (encodable_at space.Func is) ∙ e
payload_ready (payload.Exprs ty es) e =
    let both = both_lists is_encodable_site (flat_map in_constant es) (check_sites (in_ref ty)) e in
    let constants = sym (each_passes is_encodable_site in_constant es) ∙ both.0 in
    both_true (are_encodable (in_ref ty)) (list_all is_encodable_expression es) (sym (asking_passes (in_ref ty)) ∙ both.1)
    (each_then (λ x. encodable (in_constant x)) is_encodable_expression constant_ready es constants)

pub elem_ready : (x : Elem) → is_encodable_field (field.Elem x) ≡ true → is_encodable_elem x ≡ true
elem_ready x e =
    let stands = both_lists is_encodable_site (in_elem_kind x.kind) _ (both_pass (encodable (in_elem x)) true e).0 in
    let holds = both_lists is_encodable_site (in_payload x.payload) _ stands.1 in
    both_true (is_segment_type_allowed x.kind x.payload) _ (both_pass (is_segment_type_allowed x.kind x.payload) true holds.1).0
    (both_true (is_encodable_elem_kind x.kind) (is_encodable_payload x.payload) (elem_kind_ready x.kind stands.0) (payload_ready x.payload holds.0))

data_kind_ready : (k : DataKind) → encodable (in_data_kind k) ≡ true → is_encodable_data_kind k ≡ true
data_kind_ready data_kind.Passive e = refl
data_kind_ready (data_kind.Active memory offset) e =
    let both = both_lists is_encodable_site (at_index space.Memory memory) (in_constant offset) e in
    both_true (is_number memory) (is_encodable_expression offset) (both_pass (is_number memory) true both.0).0 (constant_ready offset both.1)

pub data_ready : (d : Data) → is_encodable_field (field.Data d) ≡ true → is_encodable_data d ≡ true
data_ready d e = data_kind_ready d.kind (both_pass (encodable (in_data_kind d.kind)) true e).0

pub tag_ready : (t : Tag) → is_encodable_field (field.Tag t) ≡ true → is_encodable_tag t ≡ true
tag_ready t e = sites_entered (in_tag_type t.ty) (both_pass (encodable (in_tag_type t.ty)) _ e).0
