-- Resolving type uses, generating ids of types and appending types leave the order of imports unchanged.
use Rattle.std.proofs.Common.{◌≡◌, ℕ, ◌+◌, Bool, true, false, List, [], ◌∷◌, ◌++◌, map, Option, Some, None, refl, sym, ap, ◌∙◌}
use Rattle.std.specs.Option.{option_or}
use Rattle.wast_tree_map.specs.Mapped.{mapped_func_kind, mapped_table_kind, mapped_global_kind}
use Rattle.wast_tree_map.proofs.Alone.{defines_alone}
use Rattle.wast_expand_keys.specs.Signatures.{Signature}
use Rattle.wast_expand_keys.specs.ImpliedTypes.{implied_signatures}
use Rattle.wast_expand_keys.specs.Expanders.{LookUp}
use Rattle.wast_base.specs.Filling.{given_if, one_if, with_ids_from, missing_id_count}
use Rattle.wast_expand_keys.specs.Expanded.{lacks_id, with_type_id, unnamed_type, implied_types, fields_with_types, found_for}
use Rattle.wast_expand_keys.specs.Expanded.{binding_change, bound_field, expanded_fields}
use Rattle.wast_expand_keys.specs.Completed.{fields_with_implied_types}
use Rattle.wast_resolve_laws.specs.Tree.{Space, Span, FuncKind, TableKind, GlobalKind, FunctionType, TypeUse, ModuleField}
use Rattle.wast_resolve_laws.specs.Tree.func
use Rattle.wast_resolve_laws.specs.Tree.table
use Rattle.wast_resolve_laws.specs.Tree.global
use Rattle.wast_resolve_laws.specs.Tree.field
use Rattle.wast_tree_nodes.specs.Imports.{defined_space}
use Rattle.wast_tree_nodes.specs.Profiles.{is_imported_func, is_imported_table, is_imported_global}
use Rattle.wast_resolve_rules.specs.ImportOrder.{imported_at, import_place, unless_import, defines, nothing_defined}
use Rattle.wast_resolve_rules.specs.Demands.{order_demands}
use Rattle.wast_resolve_rules.proofs.Orders.{orders_from, orders_are}

-- a field and a changed one that import and define the same
record Alike (x y : ModuleField) : Type 0 where
  place : import_place x ≡ import_place y
  space : defined_space x ≡ defined_space y

one_alike : (last : Option Space) (x y : ModuleField) (xs ys : List ModuleField) → Alike x y
    → ((o : Option Space) → orders_from o xs ≡ orders_from o ys) → orders_from last (x ∷ xs) ≡ orders_from last (y ∷ ys)
one_alike last x y xs ys a rest =
    ap (λ o. nothing_defined last o ++ orders_from (option_or (unless_import o (defined_space x)) last) xs) a.place
    ∙ (ap (λ o. nothing_defined last (import_place y) ++ orders_from (option_or (unless_import (import_place y) o) last) xs) a.space
    ∙ ap (λ ds. nothing_defined last (import_place y) ++ ds) (rest (option_or (defines y) last)))

-- an inline import stays one
bound_func : (find : LookUp) (span : Span) (u : TypeUse FunctionType) (k : FuncKind)
    → imported_at span (Some (is_imported_func (mapped_func_kind (binding_change find) u k))) ≡ imported_at span (Some (is_imported_func k))
bound_func find span u (func.Import source exact) = refl
bound_func find span u (func.Inline locals e) = refl

bound_table : (find : LookUp) (span : Span) (k : TableKind)
    → imported_at span (Some (is_imported_table (mapped_table_kind (binding_change find) k))) ≡ imported_at span (Some (is_imported_table k))
bound_table find span (table.Import source ty) = refl
bound_table find span k = refl

bound_global : (find : LookUp) (span : Span) (k : GlobalKind)
    → imported_at span (Some (is_imported_global (mapped_global_kind (binding_change find) k))) ≡ imported_at span (Some (is_imported_global k))
bound_global find span (global.Import source) = refl
bound_global find span (global.Inline e) = refl

bound_place : (find : LookUp) (x : ModuleField) → import_place (bound_field find x) ≡ import_place x
bound_place find (field.Func f) = bound_func find f.span f.ty f.kind
bound_place find (field.Table t) = bound_table find t.span t.kind
bound_place find (field.Global g) = bound_global find g.span g.kind
bound_place find x = refl

bound_alike : (find : LookUp) (x : ModuleField) → Alike (bound_field find x) x
bound_alike find x = record { place = bound_place find x; space = defines_alone (binding_change find) x }

bound_orders : (find : LookUp) (last : Option Space) (xs : List ModuleField) → orders_from last (map (bound_field find) xs) ≡ orders_from last xs
bound_orders find last [] = refl
bound_orders find last (x ∷ xs) = one_alike last (bound_field find x) x (map (bound_field find) xs) xs (bound_alike find x) (λ o. bound_orders find o xs)

given_alike : (b : Bool) (n : ℕ) (x : ModuleField) → Alike (given_if b with_type_id n x) x
given_alike false n x = record { place = refl; space = refl }
given_alike true n (field.Ty t) = record { place = refl; space = refl }
given_alike true n x = record { place = refl; space = refl }

filled_orders : (n : ℕ) (last : Option Space) (xs : List ModuleField) → orders_from last (with_ids_from lacks_id with_type_id n xs) ≡ orders_from last xs
filled_orders n last [] = refl
filled_orders n last (x ∷ xs) =
    one_alike last (given_if (lacks_id x) with_type_id n x) x (with_ids_from lacks_id with_type_id (n + one_if (lacks_id x)) xs) xs
    (given_alike (lacks_id x) n x) (λ o. filled_orders (n + one_if (lacks_id x)) o xs)

-- Types have no check of the order of imports.
none_unnamed : (last : Option Space) (ss : List Signature) → orders_from last (map unnamed_type ss) ≡ []
none_unnamed last [] = refl
none_unnamed last (s ∷ ss) = none_unnamed last ss

none_implied : (n : ℕ) (last : Option Space) (ss : List Signature) → orders_from last (implied_types n ss) ≡ []
none_implied n last [] = refl
none_implied n last (s ∷ ss) = none_implied (n + 1) last ss

behind : (ys : List ModuleField) → ((o : Option Space) → orders_from o ys ≡ []) → (last : Option Space) (xs : List ModuleField)
    → orders_from last (xs ++ ys) ≡ orders_from last xs
behind ys none last [] = none last
behind ys none last (x ∷ xs) = ap (λ ds. nothing_defined last (import_place x) ++ ds) (behind ys none (option_or (defines x) last) xs)

pub completed_orders : (fields : List ModuleField) → order_demands (fields_with_implied_types fields) ≡ order_demands fields
completed_orders fields = orders_are (fields_with_implied_types fields)
    ∙ (behind (map unnamed_type (implied_signatures fields)) (λ o. none_unnamed o (implied_signatures fields)) None fields ∙ sym (orders_are fields))

pub expanded_orders : (n : ℕ) (fields : List ModuleField) → order_demands (expanded_fields n fields) ≡ order_demands (fields_with_implied_types fields)
expanded_orders n fields =
    let m : ℕ = n + missing_id_count lacks_id fields in
    orders_are (expanded_fields n fields)
    ∙ (bound_orders (found_for fields n) None (fields_with_types n fields)
    ∙ (behind (implied_types m (implied_signatures fields)) (λ o. none_implied m o (implied_signatures fields)) None
    (with_ids_from lacks_id with_type_id n fields)
    ∙ (filled_orders n None fields ∙ (sym (orders_are fields) ∙ sym (completed_orders fields)))))
