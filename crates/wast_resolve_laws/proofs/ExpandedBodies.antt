-- If no two items have the same id, the functions of the expanded fields have as many parameters, locals and enclosing
-- blocks as those of the completed ones.
use Rattle.std.proofs.Common.{◌≡◌, ℕ, ◌+◌, true, List, [], ◌∷◌, ◌++◌, map, length, Option, Some, None, refl, ap, ◌∙◌, arith}
use Rattle.std.specs.List.{flat_map}
use Rattle.std.proofs.lemmas.Grind.{common_steps}
use Rattle.wast_tree_nodes.specs.Items.{items}
use Rattle.wast_tree_nodes.specs.Sites.{Site, OfItem, param_marks, in_field}
use Rattle.wast_tree_map.specs.Mapped.{Change, KeepsMarks, mapped_site, mapped_func_kind, mapped_field}
use Rattle.wast_tree_map.proofs.Fields.{field_at}
use Rattle.wast_tree_map.proofs.Kept.{stands_at}
use Rattle.wast_expand_keys.specs.Signatures.{empty_signature, same_signature}
use Rattle.wast_expand_keys.specs.Numbers.{TypeNames, type_names, numbered_signature}
use Rattle.wast_expand_keys.specs.Expanders.{LookUp}
use Rattle.wast_expand_keys.specs.Expanded.{with_type_id, found_for, bound_index, binding_change, bound_field, expanded_fields}
use Rattle.wast_expand_keys.specs.Completed.{fields_with_implied_types}
use Rattle.wast_expand_types.proofs.Staying.{binding_keeps}
use Rattle.wast_resolve_laws.specs.Tree.{ValType, Index, FunctionType, ModuleField}
use Rattle.wast_resolve_laws.specs.Tree.space
use Rattle.wast_resolve_laws.specs.Tree.field
use Rattle.wast_resolve_rules.specs.Scopes.{Scope, module_scope, denoted, type_at, params_of, unsaid_params}
use Rattle.wast_resolve_rules.specs.Demands.{first_unmet, item_demands, declared_ids, open_counts_at, open_counts, body_counts_in}
use Rattle.wast_resolve_laws.proofs.ExpandedTypes.{all_stay}
use Rattle.wast_resolve_laws.proofs.FoundMatches.{HasSignature, what_is_found}
use Rattle.wast_resolve_laws.proofs.Standing.{kind_declared}

-- Blocks start at the same sites after any change.
one_open : (f : Change) (s : Site) → open_counts_at (mapped_site f s) ≡ open_counts_at s
one_open f s = grind (arith, common_steps)

all_open : (f : Change) (ss : List Site) → open_counts (map (mapped_site f) ss) ≡ open_counts ss
all_open f [] = refl
all_open f (s ∷ ss) = ap (λ ns. ns ++ open_counts (map (mapped_site f) ss)) (one_open f s) ∙ ap (λ ns. open_counts_at s ++ ns) (all_open f ss)

pub still_open : (f : Change) → KeepsMarks f → (x : ModuleField) → open_counts (in_field (mapped_field f x)) ≡ open_counts (in_field x)
still_open f keeps x = ap open_counts (stands_at x (field_at x) f keeps) ∙ all_open f (in_field x)

-- A type with the empty signature has no parameters.
no_params : (k : TypeNames) (vs : List ValType) (rs : List ValType) → same_signature empty_signature (numbered_signature k (vs, rs)) ≡ true → length vs ≡ 0
no_params k [] rs h = refl
no_params k (v ∷ vs) rs h = absurd (cc h)

none_unsaid : (k : TypeNames) (c : Scope) (i : Index) → HasSignature k c empty_signature i → unsaid_params c (Some i) None ≡ 0
none_unsaid k c i h =
    ap (λ j. params_of (type_at c.types (denoted (c.known.number space.Ty) j))) h.is
    ∙ (ap (λ o. params_of (type_at c.types o)) h.denotes ∙ (ap params_of h.stands ∙ no_params k h.found.0 h.found.1 h.same))

module _ (n : ℕ) (fields : List ModuleField) (free : first_unmet (item_demands (items (expanded_fields n fields))) ≡ None) where
  abbrev find : LookUp
  find = found_for fields n

  abbrev new : Scope
  new = module_scope (expanded_fields n fields)

  bound_unsaid : (i : Option Index) (t : Option FunctionType) → unsaid_params new (bound_index find OfItem i t) t ≡ unsaid_params new i t
  bound_unsaid i (Some t) = refl
  bound_unsaid (Some i) None = refl
  bound_unsaid None None = by_found (find empty_signature) refl
    where
      by_found : (o : Option Index) → find empty_signature ≡ o → unsaid_params new o None ≡ 0
      by_found None e = refl
      by_found (Some i) e = none_unsaid (type_names fields) new i (what_is_found n fields free empty_signature i e)

  bound_body : (x : ModuleField) → body_counts_in new (bound_field find x) ≡ body_counts_in new x
  bound_body (field.Func f) =
      let x : ModuleField = bound_field find (field.Func f) in
      let now : ℕ = length (declared_ids f.ty.inline (mapped_func_kind (binding_change find) f.ty f.kind)) in
      ap (λ m. (m + now) ∷ open_counts (in_field x)) (bound_unsaid f.ty.index f.ty.inline)
      ∙ (ap (λ ms. (unsaid_params new f.ty.index f.ty.inline + length (param_marks f.ty.inline ++ ms)) ∷ open_counts (in_field x))
      (kind_declared (binding_change find) (binding_keeps find) f.ty f.kind)
      ∙ ap (λ ns. (unsaid_params new f.ty.index f.ty.inline + length (declared_ids f.ty.inline f.kind)) ∷ ns)
      (still_open (binding_change find) (binding_keeps find) (field.Func f)))
  bound_body x = still_open (binding_change find) (binding_keeps find) x

  given_body : (m : ℕ) (x : ModuleField) → body_counts_in new (with_type_id m x) ≡ body_counts_in new x
  given_body m (field.Ty t) = refl
  given_body m x = refl

  pub expanded_bodies : flat_map (body_counts_in new) (expanded_fields n fields) ≡ flat_map (body_counts_in new) (fields_with_implied_types fields)
  expanded_bodies = all_stay (body_counts_in new) given_body n fields bound_body
