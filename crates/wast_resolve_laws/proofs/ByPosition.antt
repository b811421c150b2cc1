-- Proves SamePositions: resolved fields with generated ids are those by positions, apart from the ids and positions of
-- indices.
use Rattle.std.proofs.Common.{◌≡◌, ℕ, ◌+◌, ◌<◌, Bool, true, false, List, [], ◌∷◌, ◌++◌, map, Option, Some, None, option_map, is_none}
use Rattle.std.proofs.Common.{is_some, refl, sym, ap, ◌∙◌, arith}
use Rattle.std.specs.List.{slice_get}
use Rattle.std.proofs.lemmas.List.{map-append}
use Rattle.wast_base.specs.Ids.{Name, name_of, generation_of}
use Rattle.wast_base.specs.Filling.{one_if, given_if, with_ids_from, missing_id_count}
use Rattle.wast_tree_nodes.specs.Items.{items}
use Rattle.wast_tree_nodes.specs.Known.{IdContext, id_context}
use Rattle.wast_tree_nodes.specs.Sites.{Check, ItemIndex, checks_of, in_module}
use Rattle.wast_tree_nodes.specs.Generations.{generation_in, greatest_asked, greatest_generation}
use Rattle.wast_tree_map.specs.Mapped.{mapped_field, mapped_def}
use Rattle.wast_tree_map.specs.Laws.{all_mapped}
use Rattle.wast_expand_keys.specs.Signatures.{Signature}
use Rattle.wast_expand_keys.specs.ImpliedTypes.{implied_signatures}
use Rattle.wast_expand_keys.specs.TypeSpace.{index_for, type_ids, index_by_id, index_by_id_at}
use Rattle.wast_expand_keys.specs.Expanders.{LookUp}
use Rattle.wast_expand_keys.specs.Expanded.{start_of_text, lacks_id, with_type_id, unnamed_type, implied_types, fields_with_types}
use Rattle.wast_expand_keys.specs.Expanded.{found_for, bound_field, expanded_fields}
use Rattle.wast_expand_keys.specs.Completed.{fields_with_implied_types}
use Rattle.wast_expand_keys.specs.Positioned.{position_for, fields_with_type_positions}
use Rattle.wast_expand_types.proofs.AtItsIndex.{takes_the_type_at_its_index}
use Rattle.wast_expand_types.proofs.Positions.{bound_where_there}
use Rattle.wast_resolve_laws.specs.Tree.{Id, Index, Space, ModuleField}
use Rattle.wast_resolve_laws.specs.Tree.index
use Rattle.wast_resolve_laws.specs.Tree.space
use Rattle.wast_resolve_laws.specs.Tree.field
use Rattle.wast_resolve_rules.specs.Demands.{first_unmet, item_demands, site_demands, demands}
use Rattle.wast_resolve_rules.specs.Scopes.{Scope, module_scope}
use Rattle.wast_resolve_rules.specs.Resolved.{numbered_by, numbering_change, resolved_fields}
use Rattle.wast_resolve_rules.specs.Stripped.{written_id, at_start, stripping}
use Rattle.wast_resolve_laws.proofs.OfExpanded.{numbered}
use Rattle.wast_resolve_rules.proofs.Unmet.{met_parts}
use Rattle.wast_resolve_laws.proofs.ExpandedItems.{bound_items, expanded_position}
use Rattle.wast_resolve_laws.proofs.CompletedAsks.{completed_below}
use Rattle.wast_resolve_laws.proofs.Composed.{names_met}
use Rattle.wast_resolve_laws.proofs.FoundMatches.{id_denotes}
use Rattle.wast_resolve_laws.proofs.SameUses.{telling, one_pass, SameAsk, Same, all_same}
use Rattle.wast_resolve_laws.proofs.Nameless.{number_at}
use Rattle.wast_resolve_laws.proofs.ExpandedTypes.{bound_shapes, same_shapes}

-- New ids are generated ids, which are ignored.
module _ (c : Scope) (find : LookUp) where
  abbrev told : ModuleField → ModuleField
  told x = mapped_field (telling c find) x

  none_written : (id : Option Id) → is_none id ≡ true → None ≡ written_id id
  none_written None h = refl
  none_written (Some id) h = absurd (cc h)

  given_aside : (b : Bool) (n : ℕ) (x : ModuleField) → lacks_id x ≡ b → told (given_if b with_type_id n x) ≡ told x
  given_aside false n x h = refl
  given_aside true n (field.Ty t) h = ap (λ (id : Option Id). field.Ty (record t { id = id; def = mapped_def (telling c find).index t.def }))
      (none_written t.id h)
  given_aside true n x h = refl

  filled_aside : (n : ℕ) (xs : List ModuleField) → map told (with_ids_from lacks_id with_type_id n xs) ≡ map told xs
  filled_aside n [] = refl
  filled_aside n (x ∷ xs) = λ i. given_aside (lacks_id x) n x refl i ∷ filled_aside (n + one_if (lacks_id x)) xs i

  implied_aside : (n : ℕ) (ss : List Signature) → map told (implied_types n ss) ≡ map told (map unnamed_type ss)
  implied_aside n [] = refl
  implied_aside n (s ∷ ss) = ap (λ xs. told (unnamed_type s) ∷ xs) (implied_aside (n + 1) ss)

  ids_aside : (n : ℕ) (fields : List ModuleField) → map told (fields_with_types n fields) ≡ map told (fields_with_implied_types fields)
  ids_aside n fields =
      let m : ℕ = n + missing_id_count lacks_id fields in
      map-append told (with_ids_from lacks_id with_type_id n fields) (implied_types m (implied_signatures fields))
      ∙ (ap (λ xs. xs ++ map told (implied_types m (implied_signatures fields))) (filled_aside n fields)
      ∙ (ap (λ xs. map told fields ++ xs) (implied_aside m (implied_signatures fields))
      ∙ sym (map-append told fields (map unnamed_type (implied_signatures fields)))))

-- The references in the list by positions.
same_scope : (find : LookUp) (xs : List ModuleField) → module_scope (map (bound_field find) xs) ≡ module_scope xs
same_scope find xs = λ i. record { known = id_context (bound_items find xs i); types = bound_shapes find xs i }

pub told_positions : (fields : List ModuleField) → all_mapped stripping (resolved_fields (fields_with_type_positions fields)) ≡ all_mapped
    (telling (module_scope (fields_with_implied_types fields)) (position_for fields)) (fields_with_implied_types fields)
told_positions fields =
    ap (λ (c : Scope). all_mapped stripping (all_mapped (numbering_change c) (fields_with_type_positions fields)))
    (same_scope (position_for fields) (fields_with_implied_types fields))
    ∙ one_pass (module_scope (fields_with_implied_types fields)) (position_for fields) (fields_with_implied_types fields)

-- a position has offset 0
pub position_stays : (k : IdContext) (o : Option ℕ)
    → number_at k (option_map (λ p. index.Num p start_of_text) o) ≡ option_map (λ p. index.Num p start_of_text) o
position_stays k None = refl
position_stays k (Some p) = refl

-- Indices have the same numbers if older names have, and no name that is looked up is new.
module _ (c d : Scope) (n : ℕ) (alike : (q : Name) (s : Space) → generation_of q < n → c.known.number s q ≡ d.known.number s q) where
  ask_alike : (a : Check) → generation_in a < n → SameAsk c d a
  ask_alike (ItemIndex s (index.Num m p)) lt = refl
  ask_alike (ItemIndex s (index.Id id)) lt = ap (λ o. numbered_by o id) (alike (name_of id) s lt)
  ask_alike x lt = tt

  pub asks_alike : (asks : List Check) → greatest_asked asks < n → Same c d asks
  asks_alike [] lt = tt
  asks_alike (a ∷ asks) lt = (ask_alike a (omega (arith, lt)), asks_alike asks (omega (arith, lt)))

module _ (n : ℕ) (fields : List ModuleField) (above : greatest_generation fields < n)
    (met : first_unmet (demands (fields_with_implied_types fields)) ≡ None) where
  abbrev made : LookUp
  made = found_for fields n

  abbrev new : Scope
  new = module_scope (expanded_fields n fields)

  abbrev old : Scope
  old = module_scope (fields_with_implied_types fields)

  -- The index for a signature has the position of its type.
  no_clash : first_unmet (item_demands (items (expanded_fields n fields))) ≡ None
  no_clash = (met_parts (item_demands (items (expanded_fields n fields)))
      (site_demands (module_scope (expanded_fields n fields)) (in_module (expanded_fields n fields))) (names_met n fields above met)).0

  denotes : (k : ℕ) (id : Id) → slice_get (type_ids (fields_with_types n fields)) k ≡ Some (Some id) → new.known.number space.Ty (name_of id) ≡ Some k
  denotes = id_denotes n fields no_clash

  at_position : (k : ℕ) (id : Option (Option Id)) (i : Option Index) → slice_get (type_ids (fields_with_types n fields)) k ≡ id → i ≡ index_by_id id
      → is_some i ≡ true → number_at new.known i ≡ Some (index.Num k start_of_text)
  at_position k None i at is there = absurd (cc (sym there ∙ ap is_some is))
  at_position k (Some None) i at is there = absurd (cc (sym there ∙ ap is_some is))
  at_position k (Some (Some id)) i at is there = ap (number_at new.known) is ∙ ap (λ o. Some (at_start (numbered_by o id))) (denotes k id at)

  bound_at : (o : Option ℕ) (i : Option Index) → i ≡ index_by_id_at o (type_ids (fields_with_types n fields)) → is_some i ≡ is_some o
      → number_at new.known i ≡ option_map (λ k. index.Num k start_of_text) o
  bound_at None i is there = ap (number_at new.known) is
  bound_at (Some k) i is there = at_position k (slice_get (type_ids (fields_with_types n fields)) k) i refl is there

  bound_alike : (s : Signature) → number_at new.known (made s) ≡ number_at old.known (position_for fields s)
  bound_alike s = bound_at (index_for fields s) (made s) (takes_the_type_at_its_index n fields s) (bound_where_there n fields s)
      ∙ sym (position_stays old.known (index_for fields s))

  -- The indices of the source have the same numbers.
  old_alike : Same new old (checks_of (in_module (fields_with_implied_types fields)))
  old_alike = asks_alike new old n (expanded_position n fields (omega (arith, above))) (checks_of (in_module (fields_with_implied_types fields)))
      (completed_below n fields (omega (arith, above)))

  pub numbered_by_position : all_mapped stripping (numbered n fields) ≡ all_mapped stripping (resolved_fields (fields_with_type_positions fields))
  numbered_by_position =
      one_pass new made (fields_with_types n fields)
      ∙ (ids_aside new made n fields
      ∙ (all_same new old made (position_for fields) bound_alike (same_shapes n fields) (fields_with_implied_types fields) old_alike
      ∙ sym (told_positions fields)))
