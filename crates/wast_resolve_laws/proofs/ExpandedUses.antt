-- Type uses of the expanded fields have the checks that they have in the completed ones, if no two items have the same
-- id. Each new index is known, and the inline type matches it.
use Rattle.std.proofs.Common.{◌≡◌, ℕ, ◌<◌, Bool, true, false, List, [], ◌∷◌, ◌++◌, map, append-nil, Option, Some, None, refl, sym, ap, ◌∙◌, subst}
use Rattle.std.specs.Prelude.{codes}
use Rattle.std.specs.Option.{option_or}
use Rattle.wast_base.specs.Ids.{mark_of}
use Rattle.wast_base.specs.Faults.{Cause}
use Rattle.wast_base.specs.Spaces.{word_of}
use Rattle.wast_tree_nodes.specs.Items.{items}
use Rattle.wast_tree_nodes.specs.Known.{IdContext, id_context}
use Rattle.wast_tree_nodes.specs.Sites.{Check, ItemIndex, Where, OfItem, OfCall, OfBlock, Locals, Site, Asked, Used, LocalAt, if_there}
use Rattle.wast_tree_nodes.specs.Sites.{in_index, in_signature, in_module}
use Rattle.wast_tree_map.specs.Mapped.{mapped_locals, mapped_site}
use Rattle.wast_tree_map.proofs.Laws.{stands}
use Rattle.wast_tree_nodes.specs.Generations.{greatest_item}
use Rattle.wast_expand_keys.specs.Signatures.{Signature, signature_of}
use Rattle.wast_expand_keys.specs.Numbers.{type_names, numbered_signature}
use Rattle.wast_expand_keys.specs.NeedingUses.{inline_signature, needs_type}
use Rattle.wast_expand_keys.specs.Expanders.{LookUp}
use Rattle.wast_expand_keys.specs.Expanded.{fields_with_types, found_for, bound_if, bound_index, bound_inline, binding_change, expanded_fields}
use Rattle.wast_expand_keys.specs.Completed.{fields_with_implied_types}
use Rattle.wast_expand_types.proofs.Staying.{binding_keeps}
use Rattle.wast_resolve_laws.specs.Tree.{Index, Span, FunctionType, ModuleField}
use Rattle.wast_resolve_laws.specs.Tree.space
use Rattle.wast_resolve_rules.specs.Scopes.{Scope, module_scope}
use Rattle.wast_resolve_rules.specs.Demands.{Demand, first_unmet, unknown_demand, ask_demand, ask_demands, item_demands, match_demands}
use Rattle.wast_resolve_rules.specs.Demands.{match_if, site_demand, site_demands}
use Rattle.wast_resolve_rules.proofs.Unmet.{first_unmet-or}
use Rattle.wast_resolve_laws.proofs.ExpandedItems.{bound_items}
use Rattle.wast_resolve_laws.proofs.ContinuedNames.{names_continue}
use Rattle.wast_resolve_laws.proofs.FoundMatches.{what_is_found, it_matches}
use Rattle.wast_resolve_laws.proofs.ExpandedAsks.{bound_ask, typed_asks}
use Rattle.wast_resolve_laws.proofs.FoundTypes.{IsTypeOf, found}
use Rattle.wast_resolve_laws.proofs.Nameless.{by_names}

module _ (n : ℕ) (fields : List ModuleField) where
  abbrev types : List ModuleField
  types = fields_with_types n fields

  abbrev find : LookUp
  find = found_for fields n

  abbrev new : IdContext
  new = id_context (items (expanded_fields n fields))

  abbrev new_scope : Scope
  new_scope = module_scope (expanded_fields n fields)

  -- The index for a signature is a known type.
  pub found_known : (s : Signature) (i : Index) → find s ≡ Some i → IsTypeOf (items (expanded_fields n fields)) i
  found_known s i e = subst (λ xs. IsTypeOf xs i) (sym (bound_items find types))
      (found (type_names fields) types (numbered_signature (type_names fields) s) i e)

  found_met : (i : Index) → IsTypeOf (items (expanded_fields n fields)) i → (asks : List Check)
      → first_unmet (ask_demands new (ItemIndex space.Ty i ∷ asks)) ≡ first_unmet (ask_demands new asks)
  found_met i h asks =
      ap (λ j. first_unmet (ask_demands new (ItemIndex space.Ty j ∷ asks))) h.is
      ∙ ap (λ b. first_unmet (unknown_demand (word_of space.Ty) (mark_of h.id) b ++ ask_demands new asks)) h.borne

  module _ (above : greatest_item (items fields) < n) (free : first_unmet (item_demands (items (expanded_fields n fields))) ≡ None) where
    nothing_more : (o p : Option (Cause × Span)) → (o ≡ None → p ≡ None) → option_or o p ≡ option_or o None
    nothing_more None p h = h refl
    nothing_more (Some f) p h = refl

    abbrev use_demanded : (i : Option Index) (inline : Option FunctionType) → List Demand
    use_demanded i inline = ask_demands new (if_there (in_index space.Ty) i ++ if_there in_signature inline) ++ match_if new_scope i inline

    given_index : (i : Index) (inline : Option FunctionType) → find (inline_signature inline) ≡ Some i
        → first_unmet (use_demanded (Some i) inline) ≡ first_unmet (use_demanded None inline)
    given_index i None e = ap first_unmet (append-nil (ask_demands new (ItemIndex space.Ty i ∷ []))) ∙ found_met i (found_known (inline_signature None) i e) []
    given_index i (Some t) e =
        let asked = in_signature t in
        let matched = match_demands new_scope i t in
        let known : first_unmet (ask_demands new (ItemIndex space.Ty i ∷ asked)) ≡ first_unmet (ask_demands new asked) = found_met i
        (found_known (signature_of t) i e) asked in
        first_unmet-or (ask_demands new (ItemIndex space.Ty i ∷ asked)) matched
        ∙ (ap (λ o. option_or o (first_unmet matched)) known
        ∙ (nothing_more (first_unmet (ask_demands new asked)) (first_unmet matched)
        (λ met. it_matches (type_names fields) new_scope (names_continue n fields above) t i (what_is_found n fields free (signature_of t) i e) met)
        ∙ sym (first_unmet-or (ask_demands new asked) [])))

    index_met : (w : Where) (i : Option Index) (inline : Option FunctionType)
        → first_unmet (use_demanded (bound_index find w i inline) inline) ≡ first_unmet (use_demanded i inline)
    index_met w (Some i) inline = refl
    index_met w None inline = by_need (needs_type w inline)
      where
        by_found : (o : Option Index) → find (inline_signature inline) ≡ o → first_unmet (use_demanded o inline) ≡ first_unmet (use_demanded None inline)
        by_found None e = refl
        by_found (Some i) e = given_index i inline e

        by_need : (b : Bool) → first_unmet (use_demanded (bound_if b (find (inline_signature inline))) inline) ≡ first_unmet (use_demanded None inline)
        by_need true = by_found (find (inline_signature inline)) refl
        by_need false = refl

    -- the empty inline type of a block has no check
    bound_use_met : (w : Where) (i : Option Index) (inline : Option FunctionType)
        → first_unmet (use_demanded (bound_index find w i inline) (bound_inline w i inline)) ≡ first_unmet (use_demanded i inline)
    bound_use_met OfItem i inline = index_met OfItem i inline
    bound_use_met OfCall i inline = index_met OfCall i inline
    bound_use_met OfBlock (Some i) inline = refl
    bound_use_met OfBlock None (Some t) = index_met OfBlock None (Some t)
    bound_use_met OfBlock None None = refl

    local_met : (l : Locals) (i : Index) → site_demand new_scope (LocalAt (mapped_locals (binding_change find) l) i) ≡ site_demand new_scope (LocalAt l i)
    local_met l i = by_names new_scope (mapped_locals (binding_change find) l) (codes "local") i ∙ sym (by_names new_scope l (codes "local") i)

    site_met : (s : Site) → first_unmet (site_demand new_scope (mapped_site (binding_change find) s)) ≡ first_unmet (site_demand new_scope s)
    site_met (Asked a) = ap (λ b. first_unmet (ask_demand new b)) (bound_ask find a)
    site_met (Used w u) = bound_use_met w u.index u.inline
    site_met (LocalAt locals i) = ap first_unmet (local_met locals i)
    site_met s = refl

    sites_met : (ss : List Site) → first_unmet (site_demands new_scope (map (mapped_site (binding_change find)) ss)) ≡ first_unmet (site_demands new_scope ss)
    sites_met [] = refl
    sites_met (s ∷ ss) =
        let one = mapped_site (binding_change find) s in
        let bound = map (mapped_site (binding_change find)) ss in
        first_unmet-or (site_demand new_scope one) (site_demands new_scope bound)
        ∙ (ap (λ o. option_or o (first_unmet (site_demands new_scope bound))) (site_met s)
        ∙ (ap (option_or (first_unmet (site_demand new_scope s))) (sites_met ss) ∙ sym (first_unmet-or (site_demand new_scope s) (site_demands new_scope ss))))

    pub uses_met : first_unmet (site_demands new_scope (in_module (expanded_fields n fields))) ≡ first_unmet
        (site_demands new_scope (in_module (fields_with_implied_types fields)))
    uses_met =
        ap (λ ss. first_unmet (site_demands new_scope ss)) (stands (binding_change find) (binding_keeps find) types)
        ∙ (sites_met (in_module types) ∙ ap (λ ss. first_unmet (site_demands new_scope ss)) (typed_asks n fields))
