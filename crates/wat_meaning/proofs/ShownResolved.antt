-- Resolving does not look at names and strings.
--
-- The items of a module and the signatures of its types have no names. So each index gets the same number, and each type use the same
-- type, in fields without the addresses of their names.
--
--   (export "a" (func $f)) (func $f), at any address      (export "a" (func 0)), with "a" at address 0
use Rattle.std.proofs.Common.{◌≡◌, ℕ, ◌+◌, List, [], ◌∷◌, map, Option, Some, None, option_map, refl, ap, ◌∙◌}
use Rattle.wast_base.specs.Denoted.{resolved_index}
use Rattle.wast_base.specs.Spaces.{name_if, position_of}
use Rattle.wast_tree_nodes.specs.Known.{IdContext, id_context}
use Rattle.wast_tree_nodes.specs.Sites.{Where, OfItem, OfCall, OfBlock}
use Rattle.wast_tree_nodes.specs.Types.{inline_alone, said_once}
use Rattle.wast_tree_map.specs.Mapped.{mapped_signature, mapped_field}
use Rattle.wast_expand_inline.specs.Written.{desugared_from, reference_id_count, desugared_by_position}
use Rattle.wast_expand_keys.specs.Expanded.{expanded_fields, type_id_count}
use Rattle.wast_expand_keys.specs.Completed.{fields_with_implied_types}
use Rattle.wast_expand_keys.specs.Positioned.{fields_with_type_positions}
use Rattle.wast_resolve_rules.specs.Explicit.{explicit_fields, by_positions, explicit_fields_from, generated_id_count}
use Rattle.wast_resolve_rules.specs.Finished.{resolved_fields_from}
use Rattle.wast_resolve_rules.specs.Resolved.{numbered_at, numbered_use, resolved_use, numbering_change, resolved_fields}
use Rattle.wast_resolve_rules.specs.Scopes.{Shape, Function, struct_shape, shape_of, shapes_in, shapes_of_types, Scope, module_scope}
use Rattle.wast_resolve_rules.specs.Scopes.{unsaid_params, implicit_param_count}
use Rattle.wat_syntax.specs.Tree.{Index, FunctionType, TypeUse, InnerTypeKind, ModuleField}
use Rattle.wat_syntax.specs.Tree.space
use Rattle.wat_syntax.specs.Tree.inner
use Rattle.wat_syntax.specs.Tree.ty
use Rattle.wat_syntax.specs.Tree.field
use Rattle.wat_ready.specs.Shown.{shown_composite, shown_field, shown_fields, shown_function_type, shown_type, shown_type_use}
use Rattle.wat_meaning.proofs.ShownInline.{shown_desugared, shown_desugared_from, shown_reference_count}
use Rattle.wat_meaning.proofs.ShownItems.{items_shown}
use Rattle.wat_ready.proofs.ShownLists.{map_same, flat_same}
use Rattle.wat_ready.proofs.ShownTypeParts.{field_ids_shown}
use Rattle.wat_meaning.proofs.ShownTypes.{signature_shown, shown_completed, shown_positioned, shown_expanded, shown_type_count}
use Rattle.wat_meaning.proofs.ShownTypesMapped as mapped
use Rattle.wat_meaning.proofs.ShownTypesMapped.{IgnoresNames, shown_mapped}

-- The fields after both steps of desugaring.
pub shown_explicit : (xs : List ModuleField) → explicit_fields (shown_fields xs) ≡ shown_fields (explicit_fields xs)
shown_explicit xs = ap fields_with_implied_types (shown_desugared xs) ∙ shown_completed (desugared_by_position xs)

pub shown_by_positions : (xs : List ModuleField) → by_positions (shown_fields xs) ≡ shown_fields (by_positions xs)
shown_by_positions xs = ap fields_with_type_positions (shown_desugared xs) ∙ shown_positioned (desugared_by_position xs)

pub shown_explicit_from : (n : ℕ) (xs : List ModuleField)
    → explicit_fields_from n (shown_fields xs) ≡ shown_fields (explicit_fields_from n xs)
shown_explicit_from n xs =
    (λ i. expanded_fields (n + shown_reference_count xs i) (shown_desugared_from n xs i))
    ∙ shown_expanded (n + reference_id_count xs) (desugared_from n xs)

pub shown_count : (xs : List ModuleField) → generated_id_count (shown_fields xs) ≡ generated_id_count xs
shown_count xs = λ i. shown_reference_count xs i + (ap type_id_count (shown_desugared xs) ∙ shown_type_count (desugared_by_position xs)) i

-- The identifier context, and the types by index.
shape_shown : (k : InnerTypeKind) → shape_of (shown_composite k) ≡ shape_of k
shape_shown (inner.Func t) = ap Function (signature_shown t)
shape_shown (inner.Struct t) = ap (λ ids. struct_shape (map name_if ids)) (field_ids_shown t.fields)
shape_shown (inner.Array t) = refl
shape_shown (inner.Cont t) = refl

shapes_in_shown : (x : ModuleField) → shapes_in (shown_field x) ≡ shapes_in x
shapes_in_shown (field.Ty t) = ap (λ (s : Shape). s ∷ []) (shape_shown t.def.kind)
shapes_in_shown (field.Rec r) = map_same shown_type (λ (t : ty.«Type»). shape_of t.def.kind) (λ t. shape_shown t.def.kind) r.types
shapes_in_shown x = refl

pub shapes_shown : (xs : List ModuleField) → shapes_of_types (shown_fields xs) ≡ shapes_of_types xs
shapes_shown xs = flat_same shown_field shapes_in shapes_in_shown xs

pub scope_shown : (xs : List ModuleField) → module_scope (shown_fields xs) ≡ module_scope xs
scope_shown xs = λ i. record { known = id_context (items_shown xs i); types = shapes_shown xs i }

-- Numbers in a type use.
module _ (k : IdContext) where
  signature_numbered : (t : Option FunctionType)
      → option_map (mapped_signature (numbered_at k)) (option_map shown_function_type t)
      ≡ option_map shown_function_type (option_map (mapped_signature (numbered_at k)) t)
  signature_numbered None = refl
  signature_numbered (Some t) = ap Some (mapped.signature_shown (λ o. o) (numbered_at k) t)

  numbered_shown : (u : TypeUse FunctionType) → numbered_use k (shown_type_use u) ≡ shown_type_use (numbered_use k u)
  numbered_shown u = λ i. record { index = option_map (numbered_at k space.Ty) u.index; inline = signature_numbered u.inline i }

  alone_shown : (o : Option Index) (t : Option FunctionType)
      → inline_alone o (option_map shown_function_type t) ≡ option_map shown_function_type (inline_alone o t)
  alone_shown None t = refl
  alone_shown (Some i) t = refl

  once_shown : (u : TypeUse FunctionType) → said_once (shown_type_use u) ≡ shown_type_use (said_once u)
  once_shown u = λ i. record { index = u.index; inline = alone_shown u.index u.inline i }

  use_shown : (w : Where) (u : TypeUse FunctionType) → resolved_use k w (shown_type_use u) ≡ shown_type_use (resolved_use k w u)
  use_shown OfItem u = numbered_shown u
  use_shown OfCall u = ap said_once (numbered_shown u) ∙ once_shown (numbered_use k u)
  use_shown OfBlock u = ap said_once (numbered_shown u) ∙ once_shown (numbered_use k u)

-- Numbers of locals: how many parameters a function has by its index alone.
unsaid_shown : (c : Scope) (o : Option Index) (t : Option FunctionType)
    → unsaid_params c o (option_map shown_function_type t) ≡ unsaid_params c o t
unsaid_shown c o (Some t) = refl
unsaid_shown c None None = refl
unsaid_shown c (Some i) None = refl

pub implicit_shown : (c : Scope) (o : Option (TypeUse FunctionType))
    → implicit_param_count c (option_map shown_type_use o) ≡ implicit_param_count c o
implicit_shown c None = refl
implicit_shown c (Some u) = unsaid_shown c u.index u.inline

pub numbering_ignores : (c : Scope) → IgnoresNames (numbering_change c)
numbering_ignores c = record {
  used = use_shown c.known;
  local = λ l i. ap (λ (n : ℕ). resolved_index (λ name. option_map (λ p. n + p) (position_of name l.names)) i) (implicit_shown c l.owner);
}

-- The fields with each index as its number.
pub shown_resolved : (xs : List ModuleField) → resolved_fields (shown_fields xs) ≡ shown_fields (resolved_fields xs)
shown_resolved xs =
    ap (λ c. map (mapped_field (numbering_change c)) (shown_fields xs)) (scope_shown xs)
    ∙ shown_mapped (numbering_change (module_scope xs)) (numbering_ignores (module_scope xs)) xs

pub shown_resolved_positions : (xs : List ModuleField)
    → resolved_fields (by_positions (shown_fields xs)) ≡ shown_fields (resolved_fields (by_positions xs))
shown_resolved_positions xs = ap resolved_fields (shown_by_positions xs) ∙ shown_resolved (by_positions xs)

pub shown_resolved_from : (n : ℕ) (xs : List ModuleField)
    → resolved_fields_from n (shown_fields xs) ≡ shown_fields (resolved_fields_from n xs)
shown_resolved_from n xs = ap resolved_fields (shown_explicit_from n xs) ∙ shown_resolved (explicit_fields_from n xs)
