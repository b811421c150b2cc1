-- A list with nothing to expand or to resolve, and in which no item needs an id, is unchanged.
use Rattle.std.proofs.Common.{◌≡◌, ℕ, ◌+◌, true, List, [], ◌++◌, map, length, append-nil, ap, ◌∙◌, arith}
use Rattle.std.specs.List.{list_all}
use Rattle.wast_base.specs.Filling.{with_ids_from, missing_id_count}
use Rattle.wast_tree_nodes.specs.Sites.{in_module}
use Rattle.wast_tree_nodes.specs.WrittenOut.{is_written_out}
use Rattle.wast_expand_inline.specs.Written.{reference_id_count, desugared_by_position}
use Rattle.wast_expand_inline.proofs.Staying.{wants_no_reference, stays_written, stays_by_position}
use Rattle.wast_expand_keys.specs.Signatures.{Signature}
use Rattle.wast_expand_keys.specs.NeedingUses.{needed_signatures}
use Rattle.wast_expand_keys.specs.Numbers.{type_names, numbered_signature}
use Rattle.wast_expand_keys.specs.ImpliedTypes.{eligible_signatures, is_among, first_new, implied_signatures}
use Rattle.wast_expand_keys.specs.Expanders.{LookUp}
use Rattle.wast_expand_keys.specs.Expanded.{lacks_id, with_type_id, unnamed_type, implied_types, fields_with_types, found_for, bound_field}
use Rattle.wast_expand_keys.specs.Expanded.{expanded_fields, type_id_count}
use Rattle.wast_expand_keys.specs.Completed.{fields_with_implied_types}
use Rattle.wast_expand_keys.specs.Positioned.{position_for, fields_with_type_positions}
use Rattle.wast_expand_types.proofs.AtRest.{filled_none}
use Rattle.wast_expand_types.proofs.Staying.{says, fields_stay}
use Rattle.wast_resolve_laws.specs.Tree.{ModuleField}
use Rattle.wast_resolve_rules.specs.Explicit.{explicit_fields, explicit_fields_from, by_positions, generated_id_count}

module _ (xs : List ModuleField) (none : needed_signatures xs ≡ []) (ids : missing_id_count lacks_id xs ≡ 0)
    (say : list_all says (in_module xs) ≡ true) (out : is_written_out xs ≡ true) where
  implied_none : implied_signatures xs ≡ []
  implied_none = ap (λ ss. first_new (is_among (eligible_signatures xs)) (map (numbered_signature (type_names xs)) ss)) none

  typed_is : (m : ℕ) → fields_with_types m xs ≡ xs
  typed_is m =
      ap (λ (ss : List Signature). with_ids_from lacks_id with_type_id m xs ++ implied_types (m + missing_id_count lacks_id xs) ss) implied_none
      ∙ (append-nil (with_ids_from lacks_id with_type_id m xs) ∙ filled_none lacks_id with_type_id m xs ids)

  expanded_is : (m : ℕ) → expanded_fields m xs ≡ xs
  expanded_is m =
      let find : LookUp = found_for xs m in
      ap (map (bound_field find)) (typed_is m) ∙ fields_stay find xs none say

  completed_is : fields_with_implied_types xs ≡ xs
  completed_is = ap (λ (ss : List Signature). xs ++ map unnamed_type ss) implied_none ∙ append-nil xs

  pub explicit_is : explicit_fields xs ≡ xs
  explicit_is = ap fields_with_implied_types (stays_by_position xs out) ∙ completed_is

  pub by_positions_is : by_positions xs ≡ xs
  by_positions_is =
      let find : LookUp = position_for xs in
      ap fields_with_type_positions (stays_by_position xs out) ∙ (ap (map (bound_field find)) completed_is ∙ fields_stay find xs none say)

  pub explicit_from_is : (m : ℕ) → explicit_fields_from m xs ≡ xs
  explicit_from_is m = ap (expanded_fields (m + reference_id_count xs)) (stays_written m xs out) ∙ expanded_is (m + reference_id_count xs)

  pub fills_none : generated_id_count xs ≡ 0
  fills_none =
      let wants : type_id_count (desugared_by_position xs) ≡ missing_id_count lacks_id xs + length (implied_signatures xs) = ap type_id_count
      (stays_by_position xs out) in
      let refs = wants_no_reference xs out in
      let less : length (implied_signatures xs) ≡ 0 = ap length implied_none in
      omega (arith, wants, refs, less, ids)
