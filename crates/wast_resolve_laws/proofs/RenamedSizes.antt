-- Other names leave the number of generated ids and the condition for E10 the same.
use Rattle.std.specs.Prelude.{is_none, IsTrue}
use Rattle.std.specs.List.{list_any}
use Rattle.std.proofs.Common.{◌≡◌, ℕ, ◌+◌, ◌≤◌, ◌^◌, Bool, ◌&&◌, ◌||◌, length, List, [], ◌∷◌, map, Option, Some, None, option_map, inl, inr}
use Rattle.std.proofs.Common.{refl, sym, ap, ◌∙◌, subst}
use Rattle.std.proofs.lemmas.List.{length-map}
use Rattle.wast_base.specs.Faults.{Cause}
use Rattle.wast_base.specs.Filling.{one_if, missing_id_count}
use Rattle.wast_tree_nodes.specs.Items.{items}
use Rattle.wast_tree_map.specs.Mapped.{mapped_table_kind, mapped_field}
use Rattle.wast_expand_inline.specs.Segments.{has_bytes, has_elements, has_oversized_data}
use Rattle.wast_expand_inline.specs.Written.{desugared_by_position}
use Rattle.wast_expand_inline.specs.Referring.{exports_some, wants_id}
use Rattle.wast_expand_keys.specs.ImpliedTypes.{implied_signatures}
use Rattle.wast_expand_keys.specs.Expanded.{lacks_id, type_id_count}
use Rattle.wast_resolve_laws.specs.Tree.{Span, Id, TableKind, ModuleField}
use Rattle.wast_resolve_laws.specs.Tree.table
use Rattle.wast_resolve_laws.specs.Tree.field
use Rattle.wast_resolve_rules.specs.Demands.{first_unmet, item_demands, item_counts, body_counts, HasMany, IsCrowded, IsTooLarge}
use Rattle.wast_resolve_rules.specs.Explicit.{explicit_fields, generated_id_count}
use Rattle.wast_resolve_laws.specs.Renaming.{Renaming, IsRenaming, renaming, renamed_fields, RenamesFault, RenamedFilled, RenamedTooLarge}
use Rattle.wast_resolve_laws.proofs.Renamed.{same_explicit, items_count, bodies_count}
use Rattle.wast_resolve_laws.proofs.RenamedDemands.{fields_marks, same_item_demands}
use Rattle.wast_resolve_laws.proofs.RenamedShapes.{renamed_signature}
use Rattle.wast_resolve_laws.proofs.RenamedTypes.{all_implied}
use Rattle.wast_resolve_laws.proofs.RenamedWrittenOut.{same_written}

-- as many elements need an id if each needs one that did
wanted_like : {A : Type 0} (wants : A → Bool) (f : A → A) → ((x : A) → wants (f x) ≡ wants x) → (xs : List A)
    → missing_id_count wants (map f xs) ≡ missing_id_count wants xs
wanted_like wants f same [] = refl
wanted_like wants f same (x ∷ xs) = λ i. one_if (same x i) + wanted_like wants f same xs i

module _ (r : Renaming) (is : IsRenaming r) where
  -- An item has an id exactly if it had one.
  none_same : (o : Option Id) → is_none (option_map r.id o) ≡ is_none o
  none_same None = refl
  none_same (Some id) = refl

  elements_same : (k : TableKind) → has_elements (mapped_table_kind (renaming r) k) ≡ has_elements k
  elements_same (table.Import source ty) = refl
  elements_same x = refl

  wants_same : (x : ModuleField) → wants_id (mapped_field (renaming r) x) ≡ wants_id x
  wants_same (field.Func x) = ap (λ b. exports_some x.exports && b) (none_same x.id)
  wants_same (field.Table x) = λ i. (exports_some x.exports || elements_same x.kind i) && none_same x.id i
  wants_same (field.Memory x) = ap (λ b. (exports_some x.exports || has_bytes x.kind) && b) (none_same x.id)
  wants_same (field.Global x) = ap (λ b. exports_some x.exports && b) (none_same x.id)
  wants_same (field.Tag x) = ap (λ b. exports_some x.exports && b) (none_same x.id)
  wants_same x = refl

  lacks_same : (x : ModuleField) → lacks_id (mapped_field (renaming r) x) ≡ lacks_id x
  lacks_same (field.Ty t) = none_same t.id
  lacks_same x = refl

  types_same : (xs : List ModuleField) → type_id_count (renamed_fields r xs) ≡ type_id_count xs
  types_same xs = λ i. wanted_like lacks_id (mapped_field (renaming r)) lacks_same xs i + (ap length (all_implied r is xs)
      ∙ length-map (implied_signatures xs) (renamed_signature r)) i

  filled_same : (xs : List ModuleField) → generated_id_count (renamed_fields r xs) ≡ generated_id_count xs
  filled_same xs = λ i. wanted_like wants_id (mapped_field (renaming r)) wants_same xs i + (ap type_id_count (same_written r is xs)
      ∙ types_same (desugared_by_position xs)) i

  -- The bytes of inline data are the same.
  overflow_same : (x : ModuleField) → has_oversized_data (mapped_field (renaming r) x) ≡ has_oversized_data x
  overflow_same (field.Memory x) = refl
  overflow_same x = refl

  overflows_same : (xs : List ModuleField) → list_any has_oversized_data (renamed_fields r xs) ≡ list_any has_oversized_data xs
  overflows_same [] = refl
  overflows_same (x ∷ xs) = λ i. overflow_same x i || overflows_same xs i

  -- No two items have the same id if no two had.
  unclashed : (xs : List ModuleField) → first_unmet (item_demands (items xs)) ≡ None → first_unmet (item_demands (items (renamed_fields r xs))) ≡ None
  unclashed xs = by (first_unmet (item_demands (items xs))) (first_unmet (item_demands (items (renamed_fields r xs)))) (same_item_demands r is xs)
    where
      by : (a b : Option (Cause × Span)) → RenamesFault r.name (fields_marks (items xs)) a b → a ≡ None → b ≡ None
      by None None f h = refl
      by None (Some g) f h = absurd f
      by (Some a) b f h = absurd (cc h)

  clashed : (xs : List ModuleField) → first_unmet (item_demands (items (renamed_fields r xs))) ≡ None → first_unmet (item_demands (items xs)) ≡ None
  clashed xs = by (first_unmet (item_demands (items xs))) (first_unmet (item_demands (items (renamed_fields r xs)))) (same_item_demands r is xs)
    where
      by : (a b : Option (Cause × Span)) → RenamesFault r.name (fields_marks (items xs)) a b → b ≡ None → a ≡ None
      by None b f h = refl
      by (Some a) None f h = absurd f
      by (Some a) (Some b) f h = absurd (cc h)

  -- two lists with as many of each, and no duplicates in one if the other has none
  crowded_by : (xs ys : List ModuleField) → item_counts (items xs) ≡ item_counts (items ys)
      → (first_unmet (item_demands (items xs)) ≡ None → first_unmet (item_demands (items ys)) ≡ None) → body_counts xs ≡ body_counts ys
      → IsCrowded xs → IsCrowded ys
  crowded_by xs ys counts met bodies h = elim h [ inl many ↦ inl (subst HasMany counts many) | inr inside ↦ inr (met inside.0, subst HasMany bodies inside.1) ]

  large_by : (n : ℕ) (xs ys : List ModuleField) → (IsCrowded (explicit_fields xs) → IsCrowded (explicit_fields ys))
      → generated_id_count xs ≡ generated_id_count ys → list_any has_oversized_data xs ≡ list_any has_oversized_data ys → IsTooLarge n xs → IsTooLarge n ys
  large_by n xs ys crowded filled bytes h =
      elim h [
        | inl many ↦ inl (crowded many)
        | inr rest ↦ elim rest [
          | inl counter ↦ inr (inl (subst (λ k. 2 ^ 64 ≤ n + k) filled counter))
          | inr much ↦ inr (inr (subst IsTrue bytes much))
        ]
      ]

  crowded_then : (fields : List ModuleField) → IsCrowded (explicit_fields fields) → IsCrowded (explicit_fields (renamed_fields r fields))
  crowded_then fields h =
      let xs = explicit_fields fields in
      subst IsCrowded (sym (same_explicit r is fields)) (crowded_by xs (renamed_fields r xs) (sym (items_count r is xs)) (unclashed xs)
      (sym (bodies_count r is xs)) h)

  crowded_before : (fields : List ModuleField) → IsCrowded (explicit_fields (renamed_fields r fields)) → IsCrowded (explicit_fields fields)
  crowded_before fields h =
      let xs = explicit_fields fields in
      crowded_by (renamed_fields r xs) xs (items_count r is xs) (clashed xs) (bodies_count r is xs) (subst IsCrowded (same_explicit r is fields) h)

pub renamed_filled : RenamedFilled
renamed_filled r is fields = filled_same r is fields

pub renamed_too_large : RenamedTooLarge
renamed_too_large r is n fields = (
  large_by r is n fields (renamed_fields r fields) (crowded_then r is fields) (sym (filled_same r is fields)) (sym (overflows_same r is fields)),
  large_by r is n (renamed_fields r fields) fields (crowded_before r is fields) (filled_same r is fields) (overflows_same r is fields),
)
