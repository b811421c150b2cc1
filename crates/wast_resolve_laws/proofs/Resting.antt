-- The checks of numbered fields pass if those of the fields did.
use Rattle.std.proofs.Common.{◌≡◌, ℕ, ◌+◌, Bool, true, false, cond, List, [], ◌∷◌, ◌++◌, map, Option, Some, None, refl, sym, ap, ◌∙◌, append-nil}
use Rattle.std.specs.Prelude.{if◌then◌else◌}
use Rattle.std.specs.Option.{option_or}
use Rattle.std.proofs.lemmas.Grind.{flat_map-append}
use Rattle.wast_base.specs.declared.ids.Span.{Span}
use Rattle.wast_base.specs.Ids.{Name}
use Rattle.wast_tree_nodes.specs.Items.{items, items_in, field_ids}
use Rattle.wast_tree_nodes.specs.Known.{IdContext, id_context}
use Rattle.wast_tree_nodes.specs.Sites.{in_module}
use Rattle.wast_tree_map.specs.Mapped.{mapped_site, mapped_struct_field, mapped_inner, mapped_type, mapped_func_kind, mapped_table_kind}
use Rattle.wast_tree_map.specs.Mapped.{mapped_global_kind, mapped_field}
use Rattle.wast_tree_map.proofs.Laws.{stands}
use Rattle.std.proofs.lemmas.List.{map-append}
use Rattle.wast_base.specs.Ids.{mark_of_option}
use Rattle.wast_base.specs.Spaces.{name_if}
use Rattle.wast_tree_nodes.specs.Sites.{in_field}
use Rattle.wast_tree_map.proofs.Alone.{items_alone, defines_alone}
use Rattle.wast_resolve_laws.specs.Tree.{Space, FunctionType, TypeUse, InnerTypeKind, StructField, FuncKind, TableKind, GlobalKind, ModuleField}
use Rattle.wast_resolve_laws.specs.Tree.inner
use Rattle.wast_resolve_laws.specs.Tree.ty
use Rattle.wast_resolve_laws.specs.Tree.func
use Rattle.wast_resolve_laws.specs.Tree.table
use Rattle.wast_resolve_laws.specs.Tree.global
use Rattle.wast_resolve_laws.specs.Tree.field
use Rattle.wast_resolve_rules.specs.Scopes.{Function, Struct, Other, struct_shape, shape_of, shapes_in, shapes_of_types, Scope, module_scope}
use Rattle.wast_tree_nodes.specs.Profiles.{is_imported_func, is_imported_table, is_imported_global}
use Rattle.wast_resolve_rules.specs.ImportOrder.{imported_at, import_place, unless_import, defines, nothing_defined}
use Rattle.wast_resolve_rules.specs.Demands.{first_unmet, item_demands, site_demand, site_demands, name_demands, order_demands, demands}
use Rattle.wast_resolve_rules.specs.Resolved.{numbered_at, numbering_change, resolved_fields}
use Rattle.wast_resolve_rules.proofs.Unmet.{met_parts}
use Rattle.wast_resolve_rules.proofs.Numbering.{numbering_keeps}
use Rattle.wast_resolve_rules.proofs.Orders.{orders_from, orders_are}
use Rattle.wast_resolve_laws.specs.Rests.{start_fields_of, numbers}
use Rattle.wast_resolve_laws.proofs.NumberedTypes.{met_both, numbered_shape}
use Rattle.wast_resolve_laws.proofs.OtherNames.{signature_changed}
use Rattle.wast_resolve_laws.proofs.NumberedSites.{rested, sites_rest}

module _ (c : Scope) where
  abbrev k : IdContext
  k = c.known

  -- the types of the numbered fields
  fields_still : (fs : List StructField) → field_ids (map (mapped_struct_field (numbered_at k)) fs) ≡ field_ids fs
  fields_still [] = refl
  fields_still (f ∷ fs) = ap (λ ids. mark_of_option f.id ∷ ids) (fields_still fs)

  struct_by : (b : Bool) (number : Name → Option ℕ) → cond b (Struct number) Other ≡ numbered_shape k (cond b (Struct number) Other)
  struct_by true number = refl
  struct_by false number = refl

  kind_still : (t : InnerTypeKind) → shape_of (mapped_inner (numbered_at k) t) ≡ numbered_shape k (shape_of t)
  kind_still (inner.Func t) = ap Function (signature_changed (λ o. o) (numbered_at k) t)
  kind_still (inner.Struct t) = ap (λ ids. struct_shape (map name_if ids)) (fields_still t.fields) ∙ struct_by _ _
  kind_still (inner.Array t) = refl
  kind_still (inner.Cont t) = refl

  types_still : (ts : List ty.«Type») → map (λ (t : ty.«Type»). shape_of t.def.kind) (map (mapped_type (numbering_change c)) ts) ≡ map
      (numbered_shape k) (map (λ (t : ty.«Type»). shape_of t.def.kind) ts)
  types_still [] = refl
  types_still (t ∷ ts) = λ i. kind_still t.def.kind i ∷ types_still ts i

  in_still : (x : ModuleField) → shapes_in (mapped_field (numbering_change c) x) ≡ map (numbered_shape k) (shapes_in x)
  in_still (field.Ty t) = ap (λ s. s ∷ []) (kind_still t.def.kind)
  in_still (field.Rec r) = types_still r.types
  in_still x = refl

  shapes_still : (xs : List ModuleField) → shapes_of_types (map (mapped_field (numbering_change c)) xs) ≡ map (numbered_shape k) (shapes_of_types xs)
  shapes_still [] = refl
  shapes_still (x ∷ xs) = (λ i. in_still x i ++ shapes_still xs i) ∙ sym (map-append (numbered_shape k) (shapes_in x) (shapes_of_types xs))

  -- the order of imports
  func_kept : (span : Span) (u : TypeUse FunctionType) (f : FuncKind)
      → imported_at span (Some (is_imported_func (mapped_func_kind (numbering_change c) u f))) ≡ imported_at span (Some (is_imported_func f))
  func_kept span u (func.Import source exact) = refl
  func_kept span u (func.Inline locals e) = refl

  table_kept : (span : Span) (t : TableKind)
      → imported_at span (Some (is_imported_table (mapped_table_kind (numbering_change c) t))) ≡ imported_at span (Some (is_imported_table t))
  table_kept span (table.Import source ty) = refl
  table_kept span x = refl

  global_kept : (span : Span) (g : GlobalKind)
      → imported_at span (Some (is_imported_global (mapped_global_kind (numbering_change c) g))) ≡ imported_at span (Some (is_imported_global g))
  global_kept span (global.Import source) = refl
  global_kept span (global.Inline e) = refl

  place_kept : (x : ModuleField) → import_place (mapped_field (numbering_change c) x) ≡ import_place x
  place_kept (field.Func f) = func_kept f.span f.ty f.kind
  place_kept (field.Table t) = table_kept t.span t.kind
  place_kept (field.Global g) = global_kept g.span g.kind
  place_kept x = refl

  starts_order : (last : Option Space) (ks : List (ℕ × Span)) → orders_from last (start_fields_of (numbers ks)) ≡ []
  starts_order last [] = refl
  starts_order last (j ∷ ks) = starts_order last ks

  orders_rest : (last : Option Space) (xs : List ModuleField) (ks : List (ℕ × Span))
      → orders_from last (map (mapped_field (numbering_change c)) xs ++ start_fields_of (numbers ks)) ≡ orders_from last xs
  orders_rest last [] ks = starts_order last ks
  orders_rest last (x ∷ xs) ks =
      (λ i. nothing_defined last (place_kept x i) ++ orders_from
      (option_or (unless_import (place_kept x i) (defines_alone (numbering_change c) x i)) last)
      (map (mapped_field (numbering_change c)) xs ++ start_fields_of (numbers ks)))
      ∙ ap (λ ds. nothing_defined last (import_place x) ++ ds) (orders_rest (option_or (defines x) last) xs ks)

starts_items : (ks : List (ℕ × Span)) → items (start_fields_of (numbers ks)) ≡ []
starts_items [] = refl
starts_items (j ∷ ks) = starts_items ks

starts_shapes : (ks : List (ℕ × Span)) → shapes_of_types (start_fields_of (numbers ks)) ≡ []
starts_shapes [] = refl
starts_shapes (j ∷ ks) = starts_shapes ks

starts_demand : (c : Scope) (ks : List (ℕ × Span)) → site_demands c (in_module (start_fields_of (numbers ks))) ≡ []
starts_demand c [] = refl
starts_demand c (j ∷ ks) = starts_demand c ks

pub items_rest : (xs : List ModuleField) (ks : List (ℕ × Span)) → items (resolved_fields xs ++ start_fields_of (numbers ks)) ≡ items xs
items_rest xs ks =
    flat_map-append items_in (resolved_fields xs) (start_fields_of (numbers ks))
    ∙ ((λ i. items_alone (numbering_change (module_scope xs)) (λ o. refl) (numbering_keeps (module_scope xs)) xs i ++ starts_items ks i)
    ∙ append-nil (items xs))

pub scope_rests : (xs : List ModuleField) (ks : List (ℕ × Span)) → module_scope (resolved_fields xs ++ start_fields_of (numbers ks)) ≡ rested (module_scope xs)
scope_rests xs ks = λ i. record {
  known = id_context (items_rest xs ks i);
  types = (flat_map-append shapes_in (resolved_fields xs) (start_fields_of (numbers ks))
      ∙ ((λ j. shapes_still (module_scope xs) xs j ++ starts_shapes ks j) ∙ append-nil (map (numbered_shape (module_scope xs).known) (shapes_of_types xs)))) i;
}

pub sites_are : (xs : List ModuleField) (ks : List (ℕ × Span))
    → in_module (resolved_fields xs ++ start_fields_of (numbers ks)) ≡ map (mapped_site (numbering_change (module_scope xs)))
    (in_module xs) ++ in_module (start_fields_of (numbers ks))
sites_are xs ks = flat_map-append in_field (resolved_fields xs) (start_fields_of (numbers ks))
    ∙ ap (λ ss. ss ++ in_module (start_fields_of (numbers ks))) (stands (numbering_change (module_scope xs)) (numbering_keeps (module_scope xs)) xs)

pub rests_met : (xs : List ModuleField) (ks : List (ℕ × Span)) → first_unmet (demands xs) ≡ None
    → first_unmet (demands (resolved_fields xs ++ start_fields_of (numbers ks))) ≡ None
rests_met xs ks met =
    let c = module_scope xs in
    let p = met_parts (order_demands xs) (name_demands xs) met in
    let q = met_parts (item_demands (items xs)) (site_demands c (in_module xs)) p.1 in
    met_both (order_demands (resolved_fields xs ++ start_fields_of (numbers ks))) (name_demands (resolved_fields xs ++ start_fields_of (numbers ks)))
    (ap first_unmet (orders_are (resolved_fields xs ++ start_fields_of (numbers ks)) ∙ (orders_rest c None xs ks ∙ sym (orders_are xs))) ∙ p.0)
    (met_both (item_demands (items (resolved_fields xs ++ start_fields_of (numbers ks))))
    (site_demands (module_scope (resolved_fields xs ++ start_fields_of (numbers ks))) (in_module (resolved_fields xs ++ start_fields_of (numbers ks))))
    (ap (λ its. first_unmet (item_demands its)) (items_rest xs ks) ∙ q.0)
    (ap first_unmet ((λ i. site_demands (scope_rests xs ks i) (sites_are xs ks i))
    ∙ flat_map-append (site_demand (rested c)) (map (mapped_site (numbering_change c)) (in_module xs)) (in_module (start_fields_of (numbers ks))))
    ∙ met_both (site_demands (rested c) (map (mapped_site (numbering_change c)) (in_module xs)))
    (site_demands (rested c) (in_module (start_fields_of (numbers ks)))) (sites_rest c (in_module xs) q.1) (ap first_unmet (starts_demand (rested c) ks))))
