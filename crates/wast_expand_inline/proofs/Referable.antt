-- Generated ids change nothing but ids.
use Rattle.std.proofs.Common.{◌≡◌, ℕ, ◌+◌, Bool, true, false, ◌||◌, List, [], ◌∷◌, Result, Ok, Err, IfErr, refl, ap, ◌∙◌, inr, subst}
use Rattle.std.specs.List.{list_any}
use Rattle.wast_base.specs.declared.faults.Error.{Error}
use Rattle.wast_base.specs.Filling.{one_if, given_if}
use Rattle.wast_expand_inline.specs.Tree.{ModuleField}
use Rattle.wast_expand_inline.specs.Tree.field
use Rattle.wast_expand_inline.specs.Segments.{has_oversized_data}
use Rattle.wast_expand_inline.specs.Referring.{wants_id, with_item_id}
use Rattle.wast_expand_inline.specs.Written.{with_referred_ids, IsRefusedWhere, CannotBeWritten}

overflows_given : (b : Bool) (n : ℕ) (x : ModuleField) → has_oversized_data (given_if b with_item_id n x) ≡ has_oversized_data x
overflows_given false n x = refl
overflows_given true n (field.Memory m) = refl
overflows_given true n x = refl

overflows_referable : (n : ℕ) (xs : List ModuleField) → list_any has_oversized_data (with_referred_ids n xs) ≡ list_any has_oversized_data xs
overflows_referable n [] = refl
overflows_referable n (x ∷ xs) =
    ap (λ b. b || list_any has_oversized_data (with_referred_ids (n + one_if (wants_id x)) xs)) (overflows_given (wants_id x) n x)
    ∙ ap (λ b. has_oversized_data x || b) (overflows_referable (n + one_if (wants_id x)) xs)

-- the errors, once ids are generated
pub refused : (n : ℕ) (xs ys : List ModuleField) (r : Result (List ModuleField) Error) → ys ≡ with_referred_ids n xs
    → IfErr r (IsRefusedWhere (list_any has_oversized_data ys)) → IfErr r (CannotBeWritten n xs)
refused n xs ys (Ok out) is h = h
refused n xs ys (Err e) is h = inr (subst (λ b. IsRefusedWhere b e) (ap (list_any has_oversized_data) is ∙ overflows_referable n xs) h)
