-- The errors of numbering the expanded fields are errors of resolving the fields.
use Rattle.std.proofs.Common.{◌≡◌, ℕ, ◌+◌, ◌<◌, ◌≤◌, ◌^◌, ◌⊎◌, List, map, length, length-append, None, inl, inr, refl, sym, ap, ◌∙◌, subst, arith}
use Rattle.std.specs.Prelude.{⊤}
use Rattle.wast_base.specs.Faults.{diagnostic_of, too_large, out_of_memory}
use Rattle.wast_base.specs.declared.faults.Error.{Error}
use Rattle.std.proofs.lemmas.List.Elements.{Contains-append_left}
use Rattle.wast_tree_nodes.specs.Items.{items}
use Rattle.wast_tree_nodes.specs.Known.{names_in}
use Rattle.wast_tree_nodes.specs.Generations.{greatest_generation}
use Rattle.wast_expand_inline.specs.Written.{desugared_from, reference_id_count}
use Rattle.wast_expand_keys.specs.ImpliedTypes.{implied_signatures}
use Rattle.wast_expand_keys.specs.Expanded.{unnamed_type, expanded_fields, type_id_count, HasManyTypes, StopsExpanding}
use Rattle.wast_expand_types.proofs.TypeItems.{fields_join}
use Rattle.wast_expand_keys.specs.Completed.{fields_with_implied_types}
use Rattle.wast_resolve_laws.specs.Tree.{ModuleField}
use Rattle.wast_resolve_laws.specs.Tree.space
use Rattle.wast_resolve_rules.specs.Explicit.{explicit_fields, explicit_fields_from}
use Rattle.wast_resolve_rules.specs.Demands.{first_unmet, Answers, item_demands, order_demands, name_demands, demands, space_counts}
use Rattle.wast_resolve_rules.specs.Demands.{field_counts, item_counts, body_counts, HasMany, IsCrowded, IsTooLarge, IsUnnumbered}
use Rattle.wast_resolve_rules.specs.Demands.{IsUnresolved}
use Rattle.wast_resolve_laws.proofs.Composed.{same_names, same_counts, same_bodies, same_clashes}
use Rattle.wast_resolve_laws.proofs.Explicit.{next, wants_as_many, still_above, unmet_alike}
use Rattle.wast_resolve_laws.proofs.OrderKept.{completed_orders}
use Rattle.wast_resolve_rules.proofs.Unmet.{first_unmet-append, answers_more, answers_first, answers_after}
use Rattle.wast_resolve_laws.proofs.WrittenAlike.{clashes_alike, written_counts, written_bodies}

-- Two lists have the same sizes if they have as many items, with the same duplicates, and as many in bodies.
crowded_as : (xs ys : List ModuleField) → item_counts (items xs) ≡ item_counts (items ys)
    → first_unmet (item_demands (items xs)) ≡ first_unmet (item_demands (items ys))
    → (first_unmet (item_demands (items ys)) ≡ None → body_counts xs ≡ body_counts ys) → IsCrowded xs → IsCrowded ys
crowded_as xs ys counts clashes bodies h = elim h [
  | inl many ↦ inl (subst HasMany counts many)
  | inr inside ↦ let free = sym clashes
      ∙ inside.0 in inr (free, subst HasMany (bodies free) inside.1)
]

-- E10 from the counter or the inline data is permitted, whatever check fails.
out_of : (n : ℕ) (fields : List ModuleField) (too_much : Type 0) (e : Error) → (too_much → IsTooLarge n fields)
    → (e ≡ out_of_memory) ⊎ ((e ≡ too_large) × too_much) → IsUnresolved n fields e
out_of n fields too_much e large h = elim h [
  | inl memory ↦ subst (IsUnresolved n fields) (sym memory) tt
  | inr much ↦ subst (IsUnresolved n fields)
      (sym much.0) (large much.1)
]

-- The expanded fields, after inline parts are expanded, are those after both steps of desugaring.
pub expands_all : (n : ℕ) (fields : List ModuleField) {m : ℕ} {xs ys zs : List ModuleField} → xs ≡ desugared_from n fields
    → m ≡ n + reference_id_count fields → ys ≡ xs → zs ≡ expanded_fields m ys → zs ≡ explicit_fields_from n fields
expands_all n fields w c o e = e ∙ (λ i. expanded_fields (c i) ((o ∙ w) i))

module _ (n : ℕ) (fields : List ModuleField) (above : greatest_generation fields < n) where
  abbrev rest : List ModuleField
  rest = desugared_from n fields

  -- the sizes after inline parts are expanded
  abbrev IsLarge : Type 0
  IsLarge = IsCrowded (fields_with_implied_types rest) ⊎ (2 ^ 64 ≤ next n fields + type_id_count rest)

  crowded_alike : IsCrowded (fields_with_implied_types rest) → IsTooLarge n fields
  crowded_alike h = inl (crowded_as (fields_with_implied_types rest) (explicit_fields fields) (written_counts n fields above)
      (clashes_alike n fields above) (λ free. written_bodies n fields above) h)

  large_alike : IsLarge → IsTooLarge n fields
  large_alike h = elim h [ inl crowded ↦ crowded_alike crowded | inr counter ↦ inr (inl (subst (λ m. 2 ^ 64 ≤ m) (wants_as_many n fields) counter)) ]

  answered_alike : (e : Error) → Answers ⊤ IsLarge (diagnostic_of e) (first_unmet (demands (fields_with_implied_types rest))) → IsUnresolved n fields e
  answered_alike e h = answers_more (diagnostic_of e) (first_unmet (demands (fields_with_implied_types rest)))
      (first_unmet (demands (explicit_fields fields))) (λ l. l) large_alike (λ f g. sym (unmet_alike n fields above) ∙ g) h

  -- An import after a definition is reported first.
  pub unordered_still : (e : Error) → Answers ⊥ ⊥ (diagnostic_of e) (first_unmet (order_demands rest)) → IsUnresolved n fields e
  unordered_still e h =
      answered_alike e
      (answers_first (diagnostic_of e) (order_demands (fields_with_implied_types rest)) (name_demands (fields_with_implied_types rest))
      (λ l. absurd l) (λ m. absurd m)
      (subst (λ ds. Answers ⊥ ⊥ (diagnostic_of e) (first_unmet ds)) (sym (completed_orders rest)) h))

  -- The types after inline parts are expanded are among those of the completed fields.
  many_types : HasManyTypes rest → IsTooLarge n fields
  many_types many =
      let new = map unnamed_type (implied_signatures rest) in
      let all = items (fields_with_implied_types rest) in
      let longer : length (names_in space.Ty all) ≡ length (names_in space.Ty (items rest)) + length (names_in space.Ty (items new)) =
      ap length (fields_join rest new) ∙ length-append (names_in space.Ty (items rest)) (names_in space.Ty (items new)) in
      let count : ℕ = length (names_in space.Ty all) in
      crowded_alike (inl (count, (Contains-append_left (space_counts all) (field_counts all) count (7, omega arith, refl), omega (arith, many, longer))))

  pub unexpanded_still : (e : Error) → StopsExpanding (next n fields) rest e → IsUnresolved n fields e
  unexpanded_still e h = elim h [
    | inl counter ↦ out_of n fields (2 ^ 64 ≤ next n fields + type_id_count rest) e (λ m. large_alike (inr m)) counter
    | inr many ↦ out_of n fields (HasManyTypes rest) e many_types (inr many)
  ]

  -- xs are the expanded fields
  module _ (xs : List ModuleField) (expands : xs ≡ explicit_fields_from n fields) where
    same_unmet : first_unmet (name_demands xs) ≡ first_unmet (name_demands (fields_with_implied_types rest))
    same_unmet = ap (λ (ys : List ModuleField). first_unmet (name_demands ys)) expands ∙ same_names (next n fields) rest (still_above n fields above)

    crowded_still : IsCrowded xs → IsLarge
    crowded_still h =
        let over = still_above n fields above in
        inl (crowded_as (expanded_fields (next n fields) rest) (fields_with_implied_types rest) (same_counts (next n fields) rest over)
        (same_clashes (next n fields) rest over) (same_bodies (next n fields) rest over)
        (subst IsCrowded expands h))

    module _ (ordered : first_unmet (order_demands rest) ≡ None) where
      still_ordered : first_unmet (order_demands (fields_with_implied_types rest)) ≡ None
      still_ordered = ap first_unmet (completed_orders rest) ∙ ordered

      pub met_still : first_unmet (name_demands xs) ≡ None → first_unmet (demands (explicit_fields fields)) ≡ None
      met_still h = sym (unmet_alike n fields above)
          ∙ (first_unmet-append (order_demands (fields_with_implied_types rest)) (name_demands (fields_with_implied_types rest)) still_ordered
          ∙ (sym same_unmet ∙ h))

      pub unnumbered_still : (e : Error) → IsUnnumbered xs e → IsUnresolved n fields e
      unnumbered_still e h =
          answered_alike e
          (answers_after (diagnostic_of e) (order_demands (fields_with_implied_types rest)) (name_demands (fields_with_implied_types rest)) (λ l. l)
          (λ m. m) still_ordered
          (answers_more (diagnostic_of e) (first_unmet (name_demands xs)) (first_unmet (name_demands (fields_with_implied_types rest)))
          (λ l. l) crowded_still (λ f g. sym same_unmet ∙ g) h))
