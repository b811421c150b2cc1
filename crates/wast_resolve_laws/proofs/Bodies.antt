-- In a list of fields, each local is in the function of its field, whose type use is checked there. Apart from indices
-- of locals and labels, no check depends on the function.
use Rattle.std.specs.Prelude.{⊤}
use Rattle.std.proofs.Common.{◌≡◌, false, not, List, [], ◌∷◌, ◌++◌, map, Option, Some, None, refl, ap, subst}
use Rattle.std.specs.List.{flat_map}
use Rattle.wast_base.specs.Ids.{Name, Mark}
use Rattle.wast_base.specs.Spaces.{name_if}
use Rattle.wast_tree_nodes.specs.Clauses.{is_segment_type_allowed}
use Rattle.wast_tree_nodes.specs.Sites.{Check, Clause, Covered, Site, Asked, Declared, LocalAt, OfItem, check_sites, if_there, at_index}
use Rattle.wast_tree_nodes.specs.Sites.{in_ref, in_val, in_id, in_type, in_type_use, in_use, in_expression, in_constant, in_local}
use Rattle.wast_tree_nodes.specs.Sites.{declaration_sites, param_marks, local_marks, body_here, in_func_kind, in_tag_type, in_item_kind}
use Rattle.wast_tree_nodes.specs.Sites.{in_sig, in_shared_id, in_import, uncovered_check, in_payload, in_table_kind, in_memory_kind}
use Rattle.wast_tree_nodes.specs.Sites.{in_global_kind, in_elem_kind, in_data_kind, in_subsection, in_custom, in_field, in_module}
use Rattle.wast_tree_nodes.specs.Sites.{checks_of}
use Rattle.wast_tree_nodes.proofs.Asking.{asked_both}
use Rattle.wast_tree_map.specs.Mapped.{Each}
use Rattle.wast_tree_map.proofs.Ways.{each_first, each_rest}
use Rattle.wast_resolve_laws.specs.Tree.{Id, Index, FunctionType, TypeUse, Expression, Local, FuncKind, TagType, ItemKind, ImportItems}
use Rattle.wast_resolve_laws.specs.Tree.{TableKind, MemoryKind, GlobalKind, ElemKind, ElemPayload, DataKind, Custom, Dylink0Subsection}
use Rattle.wast_resolve_laws.specs.Tree.{ModuleField}
use Rattle.wast_resolve_laws.specs.Tree.space
use Rattle.wast_resolve_laws.specs.Tree.form
use Rattle.wast_resolve_laws.specs.Tree.func
use Rattle.wast_resolve_laws.specs.Tree.tag
use Rattle.wast_resolve_laws.specs.Tree.kind
use Rattle.wast_resolve_laws.specs.Tree.import_items
use Rattle.wast_resolve_laws.specs.Tree.table
use Rattle.wast_resolve_laws.specs.Tree.memory
use Rattle.wast_resolve_laws.specs.Tree.global
use Rattle.wast_resolve_laws.specs.Tree.elem
use Rattle.wast_resolve_laws.specs.Tree.payload
use Rattle.wast_resolve_laws.specs.Tree.data_kind
use Rattle.wast_resolve_laws.specs.Tree.custom
use Rattle.wast_resolve_laws.specs.Tree.dylink
use Rattle.wast_resolve_laws.specs.Tree.field
use Rattle.wast_resolve_laws.proofs.OwnLocals.{outer, own, Fixed, fixed_both, fixed_each, fixed_asks, fixed_form, expression_fixed, constant_fixed}
use Rattle.wast_resolve_core_types.proofs.TypeParts.{as_type, both_typed, id_part, list_part}
use Rattle.wast_resolve_core_types.proofs.PartsOfTypes.{ref_part, val_part, type_part}

local_typed : (l : Local) → map as_type (in_local l) ≡ in_local l
local_typed l = both_typed (in_val l.ty) (if_there in_id l.id) (val_part.typed l.ty) (id_part.typed l.id)

locals_typed : (ls : List Local) → map as_type (flat_map in_local ls) ≡ flat_map in_local ls
locals_typed [] = refl
locals_typed (l ∷ ls) = both_typed (in_local l) (flat_map in_local ls) (local_typed l) (locals_typed ls)

declaring_fixed : (o : Option (TypeUse FunctionType)) (before : List (Option Name)) (ms : List (Option Mark)) → Fixed o (declaration_sites before ms)
declaring_fixed o before [] = refl
declaring_fixed o before (m ∷ ms) = ap (λ ss. Declared before m ∷ ss) (declaring_fixed o (before ++ name_if m ∷ []) ms)

kind_fixed : (u : TypeUse FunctionType) (k : FuncKind) → Fixed (Some u) (in_func_kind u k)
kind_fixed u (func.Import import exact) = refl
kind_fixed u (func.Inline locals e) =
    let marks = param_marks u.inline ++ local_marks locals in
    let body = in_expression (body_here u marks) e in
    fixed_both (Some u) (check_sites (flat_map in_local locals)) (declaration_sites [] marks ++ body)
    (fixed_asks (Some u) (flat_map in_local locals) (locals_typed locals))
    (fixed_both (Some u) (declaration_sites [] marks) body (declaring_fixed (Some u) [] marks) (expression_fixed (body_here u marks) e))

tag_fixed : (t : TagType) → Fixed None (in_tag_type t)
tag_fixed (tag.Exception u) = refl

item_kind_fixed : (k : ItemKind) → Fixed None (in_item_kind k)
item_kind_fixed (kind.Table t) = fixed_form None (in_ref t.elem) (Covered form.Shared (not t.shared)) (ref_part.typed t.elem) refl
item_kind_fixed (kind.Global t) = fixed_form None (in_val t.ty) (Covered form.Shared (not t.shared)) (val_part.typed t.ty) refl
item_kind_fixed (kind.Tag t) = tag_fixed t
item_kind_fixed x = refl

shared_fixed : {N : Type 0} (names : List N) (id : Option Id) → Fixed None (check_sites (in_shared_id names id ++ uncovered_check form.CompactImports))
shared_fixed [] None = refl
shared_fixed [] (Some id) = refl
shared_fixed (name ∷ names) id = refl

import_fixed : (i : ImportItems) → Fixed None (in_import i)
import_fixed (import_items.Single source name sig) = item_kind_fixed sig.kind
import_fixed (import_items.Group1 source items) =
    fixed_both None (flat_map (λ p. in_sig p.1) items) (check_sites (uncovered_check form.CompactImports))
    (fixed_each None (λ p. in_sig p.1) (λ p. item_kind_fixed p.1.kind) items) refl
import_fixed (import_items.Group2 source sig names) =
    fixed_both None (in_sig sig) (check_sites (in_shared_id names sig.id ++ uncovered_check form.CompactImports)) (item_kind_fixed sig.kind)
    (shared_fixed names sig.id)

payload_fixed : (p : ElemPayload) → Fixed None (in_payload p)
payload_fixed (payload.Indices is) = fixed_each None (at_index space.Func) (λ i. refl) is
payload_fixed (payload.Exprs ty es) =
    fixed_both None (flat_map in_constant es) (check_sites (in_ref ty)) (fixed_each None in_constant constant_fixed es)
    (fixed_asks None (in_ref ty) (ref_part.typed ty))

init_fixed : (init : Option Expression) → Fixed None (if_there in_constant init)
init_fixed None = refl
init_fixed (Some e) = constant_fixed e

table_fixed : (k : TableKind) → Fixed None (in_table_kind k)
table_fixed (table.Import import ty) = fixed_form None (in_ref ty.elem) (Covered form.Shared (not ty.shared)) (ref_part.typed ty.elem) refl
table_fixed (table.Normal ty init) =
    fixed_both None (check_sites (in_ref ty.elem ++ Covered form.Shared (not ty.shared) ∷ [])) (if_there in_constant init)
    (fixed_form None (in_ref ty.elem) (Covered form.Shared (not ty.shared)) (ref_part.typed ty.elem) refl)
    (init_fixed init)
table_fixed (table.Inline ty is64 shared elements) =
    let form = Asked (Covered form.Shared (not shared)) ∷ [] in
    fixed_both None (check_sites (in_ref ty)) (in_payload elements ++ form) (fixed_asks None (in_ref ty) (ref_part.typed ty))
    (fixed_both None (in_payload elements) form (payload_fixed elements) refl)

memory_fixed : (k : MemoryKind) → Fixed None (in_memory_kind k)
memory_fixed (memory.Import import ty) = refl
memory_fixed x = refl

global_fixed : (k : GlobalKind) → Fixed None (in_global_kind k)
global_fixed (global.Import import) = refl
global_fixed (global.Inline e) = constant_fixed e

chosen_fixed : (table : Option Index) → Fixed None (if_there (at_index space.Table) table)
chosen_fixed None = refl
chosen_fixed (Some i) = refl

elem_fixed : (k : ElemKind) → Fixed None (in_elem_kind k)
elem_fixed elem.Passive = refl
elem_fixed elem.Declared = refl
elem_fixed (elem.Active table offset) = fixed_both None (if_there (at_index space.Table) table) (in_constant offset) (chosen_fixed table)
    (constant_fixed offset)

data_fixed : (k : DataKind) → Fixed None (in_data_kind k)
data_fixed data_kind.Passive = refl
data_fixed (data_kind.Active memory offset) = fixed_both None (at_index space.Memory memory) (in_constant offset) refl (constant_fixed offset)

-- a custom section has no types
custom_typed : (ss : List Dylink0Subsection) → map as_type (flat_map in_subsection ss) ≡ flat_map in_subsection ss
custom_typed [] = refl
custom_typed (dylink.TargetArch text ∷ ss) = ap (λ asks. Covered form.TargetArch false ∷ asks) (custom_typed ss)
custom_typed (s ∷ ss) = custom_typed ss

custom_fixed : (c : Custom) → Fixed None (in_custom c)
custom_fixed (custom.Dylink0 info) = fixed_asks None (flat_map in_subsection info.subsections) (custom_typed info.subsections)
custom_fixed c = refl

-- the type use of a function
abbrev owner_of : ModuleField → Option (TypeUse FunctionType)
owner_of (field.Func f) = Some f.ty
owner_of x = None

field_fixed : (x : ModuleField) → Fixed (owner_of x) (in_field x)
field_fixed (field.Ty t) = fixed_asks None (in_type t) (type_part.typed t)
field_fixed (field.Rec r) = fixed_asks None (flat_map in_type r.types) ((list_part type_part).typed r.types)
field_fixed (field.Import i) = import_fixed i.items
field_fixed (field.Func f) = fixed_both (Some f.ty) (in_use OfItem f.ty) (in_func_kind f.ty f.kind) refl (kind_fixed f.ty f.kind)
field_fixed (field.Table t) = table_fixed t.kind
field_fixed (field.Memory m) = memory_fixed m.kind
field_fixed (field.Global g) =
    fixed_both None (check_sites (in_val g.ty.ty ++ Covered form.Shared (not g.ty.shared) ∷ [])) (in_global_kind g.kind)
    (fixed_form None (in_val g.ty.ty) (Covered form.Shared (not g.ty.shared)) (val_part.typed g.ty.ty) refl)
    (global_fixed g.kind)
field_fixed (field.Export e) = refl
field_fixed (field.Start i) = refl
field_fixed (field.Elem e) =
    let suited = Asked (Clause 4 (is_segment_type_allowed e.kind e.payload)) ∷ [] in
    fixed_both None (in_elem_kind e.kind) (in_payload e.payload ++ suited) (elem_fixed e.kind)
    (fixed_both None (in_payload e.payload) suited (payload_fixed e.payload) refl)
field_fixed (field.Data d) = data_fixed d.kind
field_fixed (field.Tag t) = tag_fixed t.ty
field_fixed (field.Custom c) = custom_fixed c

each_both : {S : Type 0} (p : S → Type 0) (xs ys : List S) → Each p xs → Each p ys → Each p (xs ++ ys)
each_both p [] ys h k = k
each_both p (x ∷ xs) ys h k = (h.0, each_both p xs ys h.1 k)

-- No check of a site depends on the function.
abbrev pub IsOuter : Site → Type 0
IsOuter (Asked a) = outer a ≡ a
IsOuter s = ⊤

abbrev ask_or : Check → Site → Check
ask_or d (Asked a) = a
ask_or d s = d

one_outer : (o : Option (TypeUse FunctionType)) (s : Site) → own o s ≡ s → IsOuter s
one_outer o (Asked a) h = ap (ask_or a) h
one_outer o s h = tt

each_outer : (o : Option (TypeUse FunctionType)) (ss : List Site) → Fixed o ss → Each IsOuter ss
each_outer o [] h = tt
each_outer o (s ∷ ss) h =
    let head : own o s ≡ s = cc in
    let tail : map (own o) ss ≡ ss = cc in
    (one_outer o s head, each_outer o ss tail)

pub all_outer : (xs : List ModuleField) → Each IsOuter (in_module xs)
all_outer [] = tt
all_outer (x ∷ xs) = each_both IsOuter (in_field x) (in_module xs) (each_outer (owner_of x) (in_field x) (field_fixed x)) (all_outer xs)

module _ (p : Check → Type 0) where
  -- The check of the type use of the function around a local is one of them.
  abbrev pub Stands : Site → Type 0
  Stands (LocalAt locals i) = Each p (if_there in_type_use locals.owner)
  Stands s = ⊤

  abbrev owner_in : Site → Option (TypeUse FunctionType)
  owner_in (LocalAt locals i) = locals.owner
  owner_in s = None

  module _ (o : Option (TypeUse FunctionType)) (so : Each p (if_there in_type_use o)) where
    one_stands : (s : Site) → own o s ≡ s → Stands s
    one_stands (LocalAt locals i) h = subst (λ w. Each p (if_there in_type_use w)) (ap owner_in h) so
    one_stands s h = tt

    each_stands : (ss : List Site) → Fixed o ss → Each Stands ss
    each_stands [] h = tt
    each_stands (s ∷ ss) h =
        let head : own o s ≡ s = cc in
        let tail : map (own o) ss ≡ ss = cc in
        (one_stands s head, each_stands ss tail)

  owner_stands : (x : ModuleField) → Each p (checks_of (in_field x)) → Each p (if_there in_type_use (owner_of x))
  owner_stands (field.Func f) h = each_first p (in_type_use f.ty) (checks_of (in_func_kind f.ty f.kind)) h
  owner_stands x h = tt

  -- A property of all checks holds for it.
  pub all_stand : (xs : List ModuleField) → Each p (checks_of (in_module xs)) → Each Stands (in_module xs)
  all_stand [] h = tt
  all_stand (x ∷ xs) h =
      let both : Each p (checks_of (in_field x) ++ checks_of (in_module xs)) = subst (Each p) (asked_both (in_field x) (in_module xs)) h in
      each_both Stands (in_field x) (in_module xs)
      (each_stands (owner_of x) (owner_stands x (each_first p (checks_of (in_field x)) (checks_of (in_module xs)) both)) (in_field x) (field_fixed x))
      (all_stand xs (each_rest p (checks_of (in_field x)) (checks_of (in_module xs)) both))
