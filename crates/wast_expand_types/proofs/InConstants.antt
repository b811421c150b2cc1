-- Tables, globals and segments need types only in their constant expressions, and nothing else is resolved.
use Rattle.std.specs.Prelude.{option_map}
use Rattle.std.proofs.Common.{◌≡◌, Bool, List, [], ◌∷◌, ◌++◌, map, append-nil, Option, Some, None, refl, ap, ◌∙◌}
use Rattle.std.specs.List.{flat_map}
use Rattle.wast_tree_nodes.specs.Sites.{Check, Site, Asked, check_sites, at_index, if_there, in_ref, in_table_type, in_global_type}
use Rattle.wast_tree_nodes.specs.Sites.{in_constant, in_payload, in_table_kind, in_global_kind, in_global, in_elem_kind, in_elem}
use Rattle.wast_expand_types.specs.Tree.{Index, RefType, TableType, GlobalType, InlineImport, Expression, Global, ElemPayload, Elem}
use Rattle.wast_expand_types.specs.Tree.space
use Rattle.wast_expand_types.specs.Tree.table
use Rattle.wast_expand_types.specs.Tree.elem
use Rattle.wast_expand_types.specs.Tree.payload
use Rattle.wast_tree_map.specs.Mapped.{mapped_constant, mapped_payload, mapped_table_kind, mapped_global_kind, mapped_global, mapped_elem_kind}
use Rattle.wast_tree_map.proofs.Ways.{index_in, option_at, list_at}
use Rattle.wast_tree_map.proofs.Types.{ref_at, table_type_at, global_type_at}
use Rattle.wast_expand_keys.specs.Signatures.{Signature}
use Rattle.wast_expand_keys.specs.NeedingUses.{needed_in}
use Rattle.wast_expand_keys.specs.Expanders.{LookUp}
use Rattle.wast_expand_keys.specs.Expanded.{binding_change}
use Rattle.wast_expand_types.proofs.Needing.{needed_both, needed_each, each_none, needed_asking}

-- what a constant expression needs
abbrev needed_by : Expression → List Signature
needed_by e = needed_in (in_constant e)

-- The checks before and after a part need no type.
behind_asks : (asks : List Check) (ss : List Site) → needed_in (check_sites asks ++ ss) ≡ needed_in ss
behind_asks asks ss = needed_both (check_sites asks) ss ∙ ap (λ ts. ts ++ needed_in ss) (needed_asking asks)

before_asks : (ss : List Site) (asks : List Check) → needed_in (ss ++ check_sites asks) ≡ needed_in ss
before_asks ss asks = needed_both ss (check_sites asks) ∙ (ap (λ ts. needed_in ss ++ ts) (needed_asking asks) ∙ append-nil (needed_in ss))

before_ask : (ss : List Site) (a : Check) → needed_in (ss ++ Asked a ∷ []) ≡ needed_in ss
before_ask ss a = before_asks ss (a ∷ [])

init_needed : (o : Option Expression) → needed_in (if_there in_constant o) ≡ if_there needed_by o
init_needed None = refl
init_needed (Some e) = refl

pub import_needs : (import : InlineImport) (ty : TableType) → needed_in (in_table_kind (table.Import import ty)) ≡ []
import_needs import ty = needed_asking (in_table_type ty)

pub normal_needs : (ty : TableType) (init : Option Expression) → needed_in (in_table_kind (table.Normal ty init)) ≡ if_there needed_by init
normal_needs ty init = behind_asks (in_table_type ty) (if_there in_constant init) ∙ init_needed init

pub inline_needs : (ty : RefType) (is64 shared : Bool) (p : ElemPayload) → needed_in (in_table_kind (table.Inline ty is64 shared p)) ≡ needed_in (in_payload p)
inline_needs ty is64 shared p = behind_asks (in_ref ty) _ ∙ before_ask (in_payload p) _

pub global_needs : (g : Global) → needed_in (in_global g) ≡ needed_in (in_global_kind g.kind)
global_needs g = behind_asks (in_global_type g.ty) (in_global_kind g.kind)

pub functions_need : (is : List Index) → needed_in (in_payload (payload.Indices is)) ≡ []
functions_need is = needed_each (at_index space.Func) is ∙ each_none (λ i. refl) is

pub exprs_need : (ty : RefType) (es : List Expression) → needed_in (in_payload (payload.Exprs ty es)) ≡ flat_map needed_by es
exprs_need ty es = before_asks (flat_map in_constant es) (in_ref ty) ∙ needed_each in_constant es

pub active_needs : (table : Option Index) (offset : Expression) → needed_in (in_elem_kind (elem.Active table offset)) ≡ needed_by offset
active_needs None offset = refl
active_needs (Some i) offset = refl

pub elem_needs : (e : Elem) → needed_in (in_elem e) ≡ needed_in (in_elem_kind e.kind) ++ needed_in (in_payload e.payload)
elem_needs e = needed_both (in_elem_kind e.kind) _ ∙ ap (λ ts. needed_in (in_elem_kind e.kind) ++ ts) (before_ask (in_payload e.payload) _)

-- The parts beside constant expressions are unchanged.
module _ (find : LookUp) where
  pub import_bound : (import : InlineImport) (ty : TableType) → mapped_table_kind (binding_change find) (table.Import import ty) ≡ table.Import import ty
  import_bound import ty = ap (λ (t : TableType). table.Import import t) (table_type_at ty).still

  pub normal_bound : (ty : TableType) (init : Option Expression) → mapped_table_kind (binding_change find) (table.Normal ty init) ≡ table.Normal ty
      (option_map (mapped_constant (binding_change find)) init)
  normal_bound ty init = ap (λ (t : TableType). table.Normal t (option_map (mapped_constant (binding_change find)) init)) (table_type_at ty).still

  pub inline_bound : (ty : RefType) (is64 shared : Bool) (p : ElemPayload)
      → mapped_table_kind (binding_change find) (table.Inline ty is64 shared p) ≡ table.Inline ty is64 shared (mapped_payload (binding_change find) p)
  inline_bound ty is64 shared p = ap (λ (r : RefType). table.Inline r is64 shared (mapped_payload (binding_change find) p)) (ref_at ty).still

  pub global_bound : (g : Global) → mapped_global (binding_change find) g ≡ record g { kind = mapped_global_kind (binding_change find) g.kind }
  global_bound g = ap (λ (t : GlobalType). record g { ty = t; kind = mapped_global_kind (binding_change find) g.kind }) (global_type_at g.ty).still

  pub functions_bound : (is : List Index) → mapped_payload (binding_change find) (payload.Indices is) ≡ payload.Indices is
  functions_bound is = ap payload.Indices (list_at (index_in space.Func) is).still

  pub exprs_bound : (ty : RefType) (es : List Expression) → mapped_payload (binding_change find) (payload.Exprs ty es) ≡ payload.Exprs ty
      (map (mapped_constant (binding_change find)) es)
  exprs_bound ty es = ap (λ (r : RefType). payload.Exprs r (map (mapped_constant (binding_change find)) es)) (ref_at ty).still

  pub active_bound : (table : Option Index) (offset : Expression)
      → mapped_elem_kind (binding_change find) (elem.Active table offset) ≡ elem.Active table (mapped_constant (binding_change find) offset)
  active_bound table offset = ap (λ (o : Option Index). elem.Active o (mapped_constant (binding_change find) offset))
      (option_at (index_in space.Table) table).still
