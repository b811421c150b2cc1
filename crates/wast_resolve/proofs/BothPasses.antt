-- The walk over the uses, after the checks of items have passed.
use Rattle.std.specs.Prelude.{⊤, flat_map}
use Rattle.std.proofs.Common.{◌≡◌, List, None, inl, inr, sym, ◌∙◌, ap, subst, map}
use Rattle.wast_base.specs.declared.faults.Error.{Error}
use Rattle.wast_base.specs.Faults.{Diagnostic, diagnostic_of}
use Rattle.wast_tree_nodes.specs.Items.{items}
use Rattle.wast_tree_nodes.specs.Sites.{in_module}
use Rattle.wast_tree_nodes.specs.Known.{IdContext, id_context}
use Rattle.wast_resolve_names.specs.declared.resolver.TypeShape.{TypeShape}
use Rattle.wast_resolve.specs.Tree.{ModuleField}
use Rattle.wast_resolve_rules.specs.Scopes.{Scope, module_scope, shapes_of_types}
use Rattle.wast_resolve_names.specs.Resolvers.{Resolution, known_of, scope_of, read_shape, with_types}
use Rattle.wast_resolve_rules.specs.Demands.{first_unmet, item_demands, site_demands, name_demands, Answers, HasMany, space_counts}
use Rattle.wast_resolve_rules.specs.Demands.{field_counts, body_counts_in, HasManyItems, IsCrowded}
use Rattle.wast_resolve_spaces.specs.Shaping.{types_demands, types_fields, IsRefused}
use Rattle.wast_resolve_rules.proofs.Counted.{many_right}
use Rattle.wast_resolve_spaces.proofs.Shaping.{types_met, types_many}
use Rattle.wast_resolve_rules.proofs.Unmet.{first_unmet-append, answers_first, answers_after, answers_more}

-- gs are the fields that were read, k is the identifier context
module _ (fs gs : List ModuleField) (p : gs ≡ fs) where
  pub items_stop : (t : Diagnostic) → Answers ⊤ (HasManyItems gs) t (first_unmet (item_demands (items gs)))
      → Answers ⊤ (IsCrowded fs) t (first_unmet (name_demands fs))
  items_stop t h =
      answers_first t (item_demands (items fs)) (site_demands (module_scope fs) (in_module fs)) (λ l. l) (λ m. inl m)
      (subst (λ (xs : List ModuleField). Answers ⊤ (HasManyItems xs) t (first_unmet (item_demands (items xs)))) p h)

  pub items_met : first_unmet (item_demands (items gs)) ≡ None → first_unmet (item_demands (items fs)) ≡ None
  items_met h = subst (λ (xs : List ModuleField). first_unmet (item_demands (items xs)) ≡ None) p h

  pub items_known : (k : IdContext) → k ≡ id_context (items gs) → k ≡ id_context (items fs)
  items_known k h = h ∙ ap (λ xs. id_context (items xs)) p

-- the index spaces, and the types after them
pub scope_known : (fs : List ModuleField) (r names : Resolution) (types : List TypeShape) → known_of r ≡ id_context (items fs)
    → map read_shape types ≡ shapes_of_types fs → names ≡ with_types r types → scope_of names ≡ module_scope fs
scope_known fs r names types k t is = ap scope_of is ∙ (λ i. record { known = k i; types = t i })

module _ (fs : List ModuleField) (c : Scope) (same : c ≡ module_scope fs) (met : first_unmet (item_demands (items fs)) ≡ None) where
  pub uses_stop : (t : Diagnostic) → Answers ⊤ (HasMany (flat_map (body_counts_in c) fs)) t (first_unmet (site_demands c (in_module fs)))
      → Answers ⊤ (IsCrowded fs) t (first_unmet (name_demands fs))
  uses_stop t h =
      answers_after t (item_demands (items fs)) (site_demands (module_scope fs) (in_module fs)) (λ l. l) (λ m. inr (met, m)) met
      (subst (λ (c : Scope). Answers ⊤ (HasMany (flat_map (body_counts_in c) fs)) t (first_unmet (site_demands c (in_module fs)))) same h)

  pub both_pass : first_unmet (site_demands c (in_module fs)) ≡ None → first_unmet (name_demands fs) ≡ None
  both_pass h = first_unmet-append (item_demands (items fs)) (site_demands (module_scope fs) (in_module fs)) met
      ∙ (ap (λ (c : Scope). first_unmet (site_demands c (in_module fs))) (sym same) ∙ h)

-- what is read of the types, if no two items and no two fields of a struct have the same id; it may fail
module _ (fs gs : List ModuleField) (p : gs ≡ fs) (met : first_unmet (item_demands (items fs)) ≡ None) where
  pub shapes_need : first_unmet (flat_map types_demands gs) ≡ None
  shapes_need = subst (λ (xs : List ModuleField). first_unmet (flat_map types_demands xs) ≡ None) (sym p) (types_met fs met)

  pub shapes_stop : (e : Error) → IsRefused (HasMany (flat_map types_fields gs)) e → Answers ⊤ (IsCrowded fs) (diagnostic_of e) (first_unmet (name_demands fs))
  shapes_stop e h =
      answers_more (diagnostic_of e) None (first_unmet (name_demands fs)) (λ l. l)
      (λ m. inl (many_right (space_counts (items fs)) (field_counts (items fs)) (types_many fs m))) (λ f k. absurd (cc k))
      (subst (λ (xs : List ModuleField). IsRefused (HasMany (flat_map types_fields xs)) e) p h)
