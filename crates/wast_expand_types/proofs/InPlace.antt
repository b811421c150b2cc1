-- Proves StaysWrittenOut: the pass adds no inline part.
use Rattle.std.proofs.Common.{◌≡◌, ℕ, ◌+◌, Bool, true, false, ◌&&◌, List, [], ◌∷◌, refl, ap, ◌∙◌}
use Rattle.std.proofs.lemmas.List.Folds.{list_all-append}
use Rattle.wast_tree_nodes.specs.WrittenOut.{is_written_field, is_written_out}
use Rattle.wast_expand_types.specs.Tree.{ModuleField}
use Rattle.wast_expand_types.specs.Tree.field
use Rattle.wast_expand_keys.specs.Signatures.{Signature}
use Rattle.wast_expand_keys.specs.ImpliedTypes.{implied_signatures}
use Rattle.wast_base.specs.Filling.{one_if, given_if, with_ids_from, missing_id_count}
use Rattle.wast_tree_map.proofs.Alone.{written_alone}
use Rattle.wast_expand_keys.specs.Expanded.{lacks_id, with_type_id, implied_types, fields_with_types, found_for, binding_change}
use Rattle.wast_expand_types.specs.Laws.{StaysWrittenOut}

written_given : (b : Bool) (n : ℕ) (x : ModuleField) → is_written_field (given_if b with_type_id n x) ≡ is_written_field x
written_given false n x = refl
written_given true n (field.Ty t) = refl
written_given true n x = refl

written_filled : (n : ℕ) (xs : List ModuleField) → is_written_out (with_ids_from lacks_id with_type_id n xs) ≡ is_written_out xs
written_filled n [] = refl
written_filled n (x ∷ xs) =
    ap (λ b. b && is_written_out (with_ids_from lacks_id with_type_id (n + one_if (lacks_id x)) xs)) (written_given (lacks_id x) n x)
    ∙ ap (λ b. is_written_field x && b) (written_filled (n + one_if (lacks_id x)) xs)

written_implied : (n : ℕ) (ss : List Signature) → is_written_out (implied_types n ss) ≡ true
written_implied n [] = refl
written_implied n (s ∷ ss) = written_implied (n + 1) ss

and_true : (b : Bool) → (b && true) ≡ b
and_true true = refl
and_true false = refl

pub stays_written_out : StaysWrittenOut
stays_written_out n fields =
    let m : ℕ = n + missing_id_count lacks_id fields in
    let named : List ModuleField = with_ids_from lacks_id with_type_id n fields in
    written_alone (binding_change (found_for fields n)) (fields_with_types n fields)
    ∙ (list_all-append is_written_field named (implied_types m (implied_signatures fields))
    ∙ (ap (λ b. is_written_out named && b) (written_implied m (implied_signatures fields)) ∙ (and_true (is_written_out named) ∙ written_filled n fields)))
