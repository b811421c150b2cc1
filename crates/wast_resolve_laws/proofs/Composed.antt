-- The errors of the expanded fields, and the properties of their resolved form.
use Rattle.std.proofs.Common.{◌≡◌, ℕ, ◌+◌, ◌<◌, true, not, ◌&&◌, ◌||◌, List, ◌∷◌, None, is_some, refl, ap, ◌∙◌, arith}
use Rattle.std.specs.Prelude.{max}
use Rattle.std.proofs.Math.Bool.{or-true}
use Rattle.wast_base.specs.Ids.{Name, name_of, generation_of, is_generated}
use Rattle.wast_tree_nodes.specs.Items.{items}
use Rattle.wast_tree_nodes.specs.Known.{IdContext, id_context}
use Rattle.wast_tree_nodes.specs.Sites.{Check, ItemIndex, checks_of, in_module}
use Rattle.wast_tree_nodes.specs.Generations.{generation_in, greatest_item, greatest_asked, greatest_generation}
use Rattle.wast_tree_nodes.specs.WellFormed.{is_kept, are_kept, is_well_formed}
use Rattle.wast_expand_keys.specs.Expanders.{LookUp}
use Rattle.wast_expand_keys.specs.Expanded.{fields_with_types, found_for, expanded_fields, type_id_count}
use Rattle.wast_expand_keys.specs.Completed.{fields_with_implied_types}
use Rattle.wast_expand_inline.proofs.Below.{each_below}
use Rattle.wast_resolve_laws.specs.Tree.{Index, Space, ModuleField}
use Rattle.wast_resolve_laws.specs.Tree.space
use Rattle.wast_resolve_rules.specs.Scopes.{Scope, module_scope}
use Rattle.wast_resolve_rules.specs.Demands.{first_unmet, item_demands, site_demands, order_demands, name_demands, demands, body_counts}
use Rattle.wast_resolve_laws.proofs.OfExpanded.{SameUnmet, SameNumbers, SameBodies, StaysWellFormed, IsNumbered, IsWellFormedNumbered, IsBelowNext}
use Rattle.wast_resolve_laws.proofs.AtRest.{all_numbered, still_well_formed, still_below}
use Rattle.wast_resolve_rules.proofs.Unmet.{alike_behind, met_parts}
use Rattle.wast_resolve_laws.proofs.OrderKept.{expanded_orders}
use Rattle.wast_resolve_laws.proofs.ExpandedItems.{expanded_position, expanded_clashes, expanded_item_counts, expanded_below}
use Rattle.wast_resolve_laws.proofs.ExpandedTypes.{same_shapes}
use Rattle.wast_resolve_laws.proofs.ExpandedBodies.{expanded_bodies}
use Rattle.wast_resolve_laws.proofs.ExpandedUses.{found_known, uses_met}
use Rattle.wast_resolve_laws.proofs.AlikeScopes.{old_uses, old_bodies}
use Rattle.wast_resolve_laws.proofs.ExpandedAsks.{bound_measure, typed_asks}
use Rattle.wast_resolve_laws.proofs.CompletedAsks.{completed_pass, completed_below}
use Rattle.wast_resolve_laws.proofs.FoundTypes.{IsTypeOf}
use Rattle.wast_resolve_laws.proofs.KeptAlike.{completed_borne, all_kept_alike}

module _ (n : ℕ) (fields : List ModuleField) where
  abbrev types : List ModuleField
  types = fields_with_types n fields

  abbrev find : LookUp
  find = found_for fields n

  abbrev new : IdContext
  new = id_context (items (expanded_fields n fields))

  abbrev new_scope : Scope
  new_scope = module_scope (expanded_fields n fields)

  found_kept : (i : Index) → IsTypeOf (items (expanded_fields n fields)) i → (asks : List Check)
      → are_kept new (ItemIndex space.Ty i ∷ asks) ≡ are_kept new asks
  found_kept i h asks =
      ap (λ j. are_kept new (ItemIndex space.Ty j ∷ asks)) h.is
      ∙ (ap (λ b. (not (is_generated (name_of h.id)) || b) && are_kept new asks) h.borne
      ∙ ap (λ b. b && are_kept new asks) (or-true (not (is_generated (name_of h.id)))))

  -- the greatest generated id of the items and of the checks
  abbrev greatest_with : List Check → ℕ
  greatest_with asks = max (greatest_item (items (expanded_fields n fields))) (greatest_asked asks)

  found_below : (i : Index) → IsTypeOf (items (expanded_fields n fields)) i → (asks : List Check)
      → greatest_with (ItemIndex space.Ty i ∷ asks) ≡ greatest_with asks
  found_below i h asks = let b = h.below in ap (λ j. greatest_with (ItemIndex space.Ty j ∷ asks)) h.is ∙ omega (arith, b)

  -- The ids that are kept and the greatest generated id depend on the checks of the fields with the appended types.
  uses_kept : are_kept new (checks_of (in_module (expanded_fields n fields))) ≡ are_kept new (checks_of (in_module (fields_with_implied_types fields)))
  uses_kept =
      bound_measure find (λ (asks : List Check). are_kept new asks) (λ a xs ys h. ap (λ b. is_kept new a && b) h)
      (λ s i asks e. found_kept i (found_known n fields s i e) asks) types
      ∙ ap (λ os. are_kept new (checks_of os)) (typed_asks n fields)

  uses_below : greatest_generation (expanded_fields n fields) ≡ greatest_with (checks_of (in_module (fields_with_implied_types fields)))
  uses_below =
      bound_measure find greatest_with (λ a xs ys h. omega (arith, h)) (λ s i asks e. found_below i (found_known n fields s i e) asks) types
      ∙ ap (λ os. greatest_with (checks_of os)) (typed_asks n fields)

  module _ (above : greatest_generation fields < n) where
    old_items_below : greatest_item (items fields) < n
    old_items_below = omega (arith, above)

    old_asks_below : greatest_asked (checks_of (in_module (fields_with_implied_types fields))) < n
    old_asks_below = completed_below n fields (omega (arith, above))

    known_alike : (s : Space) (q : Name) → generation_of q < n
        → is_some (new.number s q) ≡ is_some ((id_context (items (fields_with_implied_types fields))).number s q)
    known_alike s q lt = ap is_some (expanded_position n fields old_items_below q s lt)

    pub same_uses : first_unmet (item_demands (items (expanded_fields n fields))) ≡ None
        → first_unmet (site_demands new_scope (in_module (expanded_fields n fields))) ≡ first_unmet
        (site_demands (module_scope (fields_with_implied_types fields)) (in_module (fields_with_implied_types fields)))
    same_uses free =
        uses_met n fields old_items_below free
        ∙ ap first_unmet
        (old_uses n (expanded_fields n fields) (fields_with_implied_types fields) (same_shapes n fields)
        (λ s q lt. expanded_position n fields old_items_below q s lt)
        (each_below n generation_in (checks_of (in_module (fields_with_implied_types fields))) old_asks_below))

    pub same_bodies_if : first_unmet (item_demands (items (fields_with_implied_types fields))) ≡ None
        → body_counts (expanded_fields n fields) ≡ body_counts (fields_with_implied_types fields)
    same_bodies_if free =
        expanded_bodies n fields (expanded_clashes n fields old_items_below ∙ free)
        ∙ old_bodies n (expanded_fields n fields) (fields_with_implied_types fields) (same_shapes n fields)
        (λ s q lt. expanded_position n fields old_items_below q s lt)
        (each_below n generation_in (checks_of (in_module (fields_with_implied_types fields))) old_asks_below)

    still_kept : is_well_formed fields ≡ true → is_well_formed (expanded_fields n fields) ≡ true
    still_kept h =
        let old = id_context (items fields) in
        uses_kept ∙ (all_kept_alike n new old (λ s q lt. known_alike s q lt
        ∙ completed_borne q s fields) (checks_of (in_module (fields_with_implied_types fields))) old_asks_below
        ∙ completed_pass (is_kept old) refl (λ m p. refl) fields h)

    pub still_under : greatest_generation (expanded_fields n fields) < n + type_id_count fields
    still_under =
        let a = uses_below in
        let b = expanded_below n fields old_items_below in
        let c = old_asks_below in
        omega arith

pub same_names : (n : ℕ) (fields : List ModuleField) → greatest_generation fields < n
    → first_unmet (name_demands (expanded_fields n fields)) ≡ first_unmet (name_demands (fields_with_implied_types fields))
same_names n fields above =
    let e = expanded_fields n fields in
    let c = fields_with_implied_types fields in
    alike_behind (item_demands (items e)) (item_demands (items c)) (site_demands (module_scope e) (in_module e))
    (site_demands (module_scope c) (in_module c)) (expanded_clashes n fields (old_items_below n fields above)) (same_uses n fields above)

pub same_answer : SameUnmet
same_answer n fields above =
    let e = expanded_fields n fields in
    let c = fields_with_implied_types fields in
    alike_behind (order_demands e) (order_demands c) (name_demands e) (name_demands c) (ap first_unmet (expanded_orders n fields))
    (λ met. same_names n fields above)

-- If each check of the completed fields passes, so does each check of ids of the expanded ones.
pub names_met : (n : ℕ) (fields : List ModuleField) → greatest_generation fields < n
    → first_unmet (demands (fields_with_implied_types fields)) ≡ None → first_unmet (name_demands (expanded_fields n fields)) ≡ None
names_met n fields above met = same_names n fields above
    ∙ (met_parts (order_demands (fields_with_implied_types fields)) (name_demands (fields_with_implied_types fields)) met).1

pub same_counts : SameNumbers
same_counts n fields above = expanded_item_counts n fields (old_items_below n fields above)

pub same_clashes : (n : ℕ) (fields : List ModuleField) → greatest_generation fields < n
    → first_unmet (item_demands (items (expanded_fields n fields))) ≡ first_unmet (item_demands (items (fields_with_implied_types fields)))
same_clashes n fields above = expanded_clashes n fields (old_items_below n fields above)

pub same_bodies : SameBodies
same_bodies n fields above free = same_bodies_if n fields above free

pub expanded_well_formed : StaysWellFormed
expanded_well_formed n fields above h = still_kept n fields above h

pub all_are_numbers : IsNumbered
all_are_numbers n fields above met = all_numbered (expanded_fields n fields) (names_met n fields above met)

pub numbered_well_formed : IsWellFormedNumbered
numbered_well_formed n fields above h met = still_well_formed (expanded_fields n fields) (expanded_well_formed n fields above h) (names_met n fields above met)

pub numbered_below : IsBelowNext
numbered_below n fields above =
    let a = still_below (expanded_fields n fields) in
    let b = still_under n fields above in
    omega arith
