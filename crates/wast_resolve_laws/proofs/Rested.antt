-- Proves the theorems about resolved fields, also with start fields with numbers after them.
use Rattle.std.proofs.Common.{◌≡◌, ℕ, ◌+◌, true, List, [], ◌∷◌, map, refl, ap, ◌∙◌, arith}
use Rattle.std.specs.List.{list_all}
use Rattle.std.proofs.lemmas.List.Folds.{list_all-append}
use Rattle.std.proofs.lemmas.Grind.{flat_map-append}
use Rattle.wast_base.specs.declared.ids.Span.{Span}
use Rattle.wast_base.specs.Filling.{one_if, missing_id_count}
use Rattle.wast_tree_nodes.specs.Sites.{in_field, in_module}
use Rattle.wast_tree_nodes.specs.WrittenOut.{is_written_field, is_written_out}
use Rattle.wast_tree_map.specs.Mapped.{mapped_field}
use Rattle.wast_expand_inline.specs.Written.{desugared_from, reference_id_count}
use Rattle.wast_expand_keys.specs.NeedingUses.{needed_signatures}
use Rattle.wast_expand_keys.specs.Expanded.{lacks_id, with_type_id, type_id_count}
use Rattle.wast_expand_types.proofs.AtRest.{wants_no_more}
use Rattle.wast_expand_types.proofs.Staying.{says}
use Rattle.wast_resolve_laws.specs.Tree.{ModuleField}
use Rattle.wast_resolve_laws.specs.Tree.field
use Rattle.wast_resolve_rules.specs.Scopes.{Scope, module_scope}
use Rattle.wast_resolve_rules.specs.Demands.{first_unmet, demands}
use Rattle.wast_resolve_rules.specs.Explicit.{explicit_fields_from}
use Rattle.wast_resolve_rules.specs.Resolved.{numbering_change, resolved_fields}
use Rattle.wast_resolve_rules.specs.Finished.{resolved_fields_from}
use Rattle.wast_resolve_laws.specs.Rests.{start_fields_of, numbers, with_start_fields, RestsMet, RestsStill, RestsByPosition, FillsNoMore, StartsStayWellFormed}
use Rattle.wast_resolve_laws.proofs.Explicit.{explicit_answer, finished_indexed, finished_written_out, finished_well_formed}
use Rattle.wast_resolve_laws.proofs.ImpliedSignatures.{both_so}
use Rattle.wast_resolve_laws.proofs.Indexed.{expanded_says, still_says}
use Rattle.wast_resolve_laws.proofs.Resting.{rests_met}
use Rattle.wast_resolve_laws.proofs.Still.{rests_numbered}
use Rattle.wast_resolve_laws.proofs.Settled.{explicit_is, by_positions_is, explicit_from_is, fills_none}
use Rattle.wast_resolve_laws.proofs.StartsBehind.{wanted_behind, needed_behind}
use Rattle.wast_resolve_laws.proofs.StartsKept.{still_well_formed}

-- Numbering adds and removes no id of a type.
ids_kept : (c : Scope) (xs : List ModuleField) → missing_id_count lacks_id (map (mapped_field (numbering_change c)) xs) ≡ missing_id_count lacks_id xs
ids_kept c [] = refl
ids_kept c (x ∷ xs) = λ t. one_if (kept x t) + ids_kept c xs t
  where
    kept : (x : ModuleField) → lacks_id (mapped_field (numbering_change c) x) ≡ lacks_id x
    kept (field.Ty t) = refl
    kept x = refl

starts_say : (ks : List (ℕ × Span)) → list_all says (in_module (start_fields_of (numbers ks))) ≡ true
starts_say [] = refl
starts_say (k ∷ ks) = starts_say ks

starts_out : (ks : List (ℕ × Span)) → is_written_out (start_fields_of (numbers ks)) ≡ true
starts_out [] = refl
starts_out (k ∷ ks) = starts_out ks

module _ (n : ℕ) (fields : List ModuleField) (ks : List (ℕ × Span)) where
  abbrev list : List ModuleField
  list = with_start_fields n fields ks

  nothing_needed : needed_signatures list ≡ []
  nothing_needed = needed_behind (numbers ks) (resolved_fields_from n fields) ∙ finished_indexed n fields

  all_have_ids : missing_id_count lacks_id list ≡ 0
  all_have_ids =
      let none : type_id_count (explicit_fields_from n fields) ≡ 0 = wants_no_more (n + reference_id_count fields) (desugared_from n fields) in
      let kept = ids_kept (module_scope (explicit_fields_from n fields)) (explicit_fields_from n fields) in
      let behind = wanted_behind lacks_id with_type_id (λ i. refl) (resolved_fields_from n fields) (numbers ks) in
      omega (arith, none, kept, behind)

  all_say : list_all says (in_module list) ≡ true
  all_say =
      let now = in_module (resolved_fields_from n fields) in
      let more = in_module (start_fields_of (numbers ks)) in
      ap (list_all says) (flat_map-append in_field (resolved_fields_from n fields) (start_fields_of (numbers ks)))
      ∙ (list_all-append says now more
      ∙ both_so (list_all says now) (list_all says more) (still_says (module_scope (explicit_fields_from n fields)) (explicit_fields_from n fields)
      (expanded_says (n + reference_id_count fields) (desugared_from n fields))) (starts_say ks))

  all_out : is_written_out list ≡ true
  all_out =
      list_all-append is_written_field (resolved_fields_from n fields) (start_fields_of (numbers ks))
      ∙ both_so (is_written_out (resolved_fields_from n fields)) (is_written_out (start_fields_of (numbers ks))) (finished_written_out n fields) (starts_out ks)

pub rests_still : RestsStill
rests_still m n fields ks =
    ap resolved_fields (explicit_from_is (list n fields ks) (nothing_needed n fields ks) (all_have_ids n fields ks) (all_say n fields ks)
    (all_out n fields ks) m) ∙ rests_numbered (explicit_fields_from n fields) ks

pub rests_by_position : RestsByPosition
rests_by_position n fields ks =
    ap resolved_fields (by_positions_is (list n fields ks) (nothing_needed n fields ks) (all_have_ids n fields ks) (all_say n fields ks)
    (all_out n fields ks)) ∙ rests_numbered (explicit_fields_from n fields) ks

pub fills_no_more : FillsNoMore
fills_no_more n fields ks = fills_none (list n fields ks) (nothing_needed n fields ks) (all_have_ids n fields ks) (all_say n fields ks) (all_out n fields ks)

pub rests_are_met : RestsMet
rests_are_met n fields ks above met =
    ap (λ xs. first_unmet (demands xs)) (explicit_is (list n fields ks) (nothing_needed n fields ks) (all_have_ids n fields ks) (all_say n fields ks)
    (all_out n fields ks))
    ∙ rests_met (explicit_fields_from n fields) ks (explicit_answer n fields above ∙ met)

pub starts_stay_well_formed : StartsStayWellFormed
starts_stay_well_formed n fields ks above h met = still_well_formed (resolved_fields_from n fields) ks (finished_well_formed n fields above h met)
