-- The checks of resolving do not depend on the addresses of names and strings.
--
--   (func $f) (export "a" (func $g))      one check fails, E4 at $g, wherever "a" is
use Rattle.std.specs.Prelude.{codes, Option, Some, None, option_map}
use Rattle.std.specs.List.{flat_map}
use Rattle.std.specs.Option.{option_or}
use Rattle.std.proofs.Common.{◌≡◌, ℕ, ◌+◌, List, [], ◌∷◌, ◌++◌, length, map, refl, sym, ap, ◌∙◌, arith}
use Rattle.std.proofs.lemmas.Grind.{common_steps}
use Rattle.std.proofs.lemmas.List.{map-append}
use Rattle.wast_base.specs.Ids.{Name, span_of_index}
use Rattle.wast_base.specs.Spaces.{position_of}
use Rattle.wast_tree_nodes.specs.Items.{items}
use Rattle.wast_tree_nodes.specs.Sites.{Locals, Site, Asked, Used, LocalAt, in_field, in_module}
use Rattle.wast_expand_keys.specs.Signatures.{Signature, same_signature_by}
use Rattle.wast_resolve_rules.specs.Scopes.{Scope, module_scope, denoted, type_at, local_number}
use Rattle.wast_resolve_rules.specs.Matches.{same_type}
use Rattle.wast_resolve_rules.specs.ImportOrder.{import_place, unless_import, last_defined, nothing_defined, order_demand}
use Rattle.wast_resolve_rules.specs.Demands.{first_unmet, known_index, each_after, item_demands, ask_demands, match_with, match_demands}
use Rattle.wast_resolve_rules.specs.Demands.{match_if, use_demand, site_demand, site_demands, name_demands, order_demands, demands}
use Rattle.wast_resolve_rules.specs.Demands.{item_counts, kind_marks, declared_ids, local_counts_in, open_counts_at, open_counts}
use Rattle.wast_resolve_rules.specs.Demands.{body_counts_in, body_counts}
use Rattle.wat_syntax.specs.Tree.{Index, FunctionType, TypeUse, FuncKind, ModuleField}
use Rattle.wat_syntax.specs.Tree.space
use Rattle.wat_syntax.specs.Tree.func
use Rattle.wat_syntax.specs.Tree.field
use Rattle.wat_ready.specs.Shown.{shown_field, shown_fields, shown_func_kind, shown_function_type, shown_type_use}
use Rattle.wat_ready.specs.ShownSites.{shown_locals, shown_site}
use Rattle.wat_ready.proofs.ShownLists.{flat_same}
use Rattle.wat_ready.proofs.ShownTypeParts.{use_asks, params_shown, locals_shown}
use Rattle.wat_meaning.proofs.ShownItems.{items_shown, defined_shown, func_imported, table_imported, memory_imported, global_imported, tag_imported}
use Rattle.wat_ready.proofs.ShownSites.{field_shown, sites_shown}
use Rattle.wat_meaning.proofs.ShownTypes.{signature_shown}
use Rattle.wat_meaning.proofs.ShownResolved.{scope_shown, implicit_shown}

-- Sites, in one scope.
module _ (c : Scope) where
  if_shown : (i : Option Index) (t : Option FunctionType) → match_if c i (option_map shown_function_type t) ≡ match_if c i t
  if_shown None None = refl
  if_shown None (Some t) = refl
  if_shown (Some i) None = refl
  if_shown (Some i) (Some t) = match_shown i t
    where
      match_shown : (i : Index) (t : FunctionType) → match_demands c i (shown_function_type t) ≡ match_demands c i t
      match_shown i t =
          let there = type_at c.types (denoted (c.known.number space.Ty) i) in
          ap (λ (s : Signature). match_with (same_signature_by (same_type c.known) s) (span_of_index i) there) (signature_shown t)

  use_shown : (u : TypeUse FunctionType) → use_demand c (shown_type_use u) ≡ use_demand c u
  use_shown u = λ i. ask_demands c.known (use_asks u i) ++ if_shown u.index u.inline i

  local_shown : (l : Locals) → local_number c (shown_locals l) ≡ local_number c l
  local_shown l = ap (λ (n : ℕ). λ name. option_map (λ p. n + p) (position_of name l.names)) (implicit_shown c l.owner)

  site_shown : (s : Site) → site_demand c (shown_site s) ≡ site_demand c s
  site_shown (Used w u) = use_shown u
  site_shown (LocalAt locals i) = ap (λ (number : Name → Option ℕ). known_index number (codes "local") i) (local_shown locals)
  site_shown x = refl

  all_sites_shown : (ss : List Site) → site_demands c (map shown_site ss) ≡ site_demands c ss
  all_sites_shown ss = flat_same shown_site (site_demand c) site_shown ss

-- All checks but the order of imports.
pub item_demands_shown : (xs : List ModuleField) → item_demands (items (shown_fields xs)) ≡ item_demands (items xs)
item_demands_shown xs = ap item_demands (items_shown xs)

site_demands_shown : (xs : List ModuleField)
    → site_demands (module_scope (shown_fields xs)) (in_module (shown_fields xs)) ≡ site_demands (module_scope xs) (in_module xs)
site_demands_shown xs = (λ i. site_demands (scope_shown xs i) (sites_shown xs i)) ∙ all_sites_shown (module_scope xs) (in_module xs)

pub name_demands_shown : (xs : List ModuleField) → name_demands (shown_fields xs) ≡ name_demands xs
name_demands_shown xs = λ i. item_demands_shown xs i ++ site_demands_shown xs i

-- The order of imports.
pub import_shown : (x : ModuleField) → import_place (shown_field x) ≡ import_place x
import_shown x = grind (arith, common_steps, func_imported, table_imported, memory_imported, global_imported, tag_imported)

pub last_shown : (xs : List ModuleField) → last_defined (shown_fields xs) ≡ last_defined xs
last_shown [] = refl
last_shown (x ∷ xs) = λ i. option_or (last_shown xs i) (unless_import (import_shown x i) (defined_shown x i))

order_shown : (before : List ModuleField) (x : ModuleField) → order_demand (shown_fields before) (shown_field x) ≡ order_demand before x
order_shown before x = λ i. nothing_defined (last_shown before i) (import_shown x i)

orders_from : (before xs : List ModuleField)
    → each_after order_demand (shown_fields before) (shown_fields xs) ≡ each_after order_demand before xs
orders_from before [] = refl
orders_from before (x ∷ xs) =
    ap (λ (b : List ModuleField). order_demand (shown_fields before) (shown_field x) ++ each_after order_demand b (shown_fields xs))
    (sym (map-append shown_field before (x ∷ [])))
    ∙ (λ i. order_shown before x i ++ orders_from (before ++ x ∷ []) xs i)

pub order_demands_shown : (xs : List ModuleField) → order_demands (shown_fields xs) ≡ order_demands xs
order_demands_shown xs = orders_from [] xs

-- All checks, and the first that fails.
pub demands_shown : (xs : List ModuleField) → demands (shown_fields xs) ≡ demands xs
demands_shown xs = λ i. order_demands_shown xs i ++ name_demands_shown xs i

pub unmet_shown : (xs : List ModuleField) → first_unmet (demands (shown_fields xs)) ≡ first_unmet (demands xs)
unmet_shown xs = ap first_unmet (demands_shown xs)

-- The sizes that permit E10: items, and parameters, locals and enclosing blocks.
pub item_counts_shown : (xs : List ModuleField) → item_counts (items (shown_fields xs)) ≡ item_counts (items xs)
item_counts_shown xs = ap item_counts (items_shown xs)

kind_marks_shown : (k : FuncKind) → kind_marks (shown_func_kind k) ≡ kind_marks k
kind_marks_shown (func.Import source exact) = refl
kind_marks_shown (func.Inline locals e) = locals_shown locals

declared_same : (t : Option FunctionType) (k : FuncKind)
    → declared_ids (option_map shown_function_type t) (shown_func_kind k) ≡ declared_ids t k
declared_same t k = λ i. params_shown t i ++ kind_marks_shown k i

open_same : (s : Site) → open_counts_at (shown_site s) ≡ open_counts_at s
open_same (Asked a) = refl
open_same x = refl

open_shown : (x : ModuleField) → open_counts (in_field (shown_field x)) ≡ open_counts (in_field x)
open_shown x = ap open_counts (field_shown x) ∙ flat_same shown_site open_counts_at open_same (in_field x)

module _ (c : Scope) where
  local_counts_shown : (x : ModuleField) → local_counts_in c (shown_field x) ≡ local_counts_in c x
  local_counts_shown (field.Func f) = λ i. (implicit_shown c (Some f.ty) i + length (declared_same f.ty.inline f.kind i)) ∷ []
  local_counts_shown x = refl

  body_shown : (x : ModuleField) → body_counts_in c (shown_field x) ≡ body_counts_in c x
  body_shown x = λ i. local_counts_shown x i ++ open_shown x i

pub body_counts_shown : (xs : List ModuleField) → body_counts (shown_fields xs) ≡ body_counts xs
body_counts_shown xs =
    ap (λ (c : Scope). flat_map (body_counts_in c) (shown_fields xs)) (scope_shown xs)
    ∙ flat_same shown_field (body_counts_in (module_scope xs)) (body_shown (module_scope xs)) xs
