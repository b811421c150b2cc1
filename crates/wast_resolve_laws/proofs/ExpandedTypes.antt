-- Checks read the types of the expanded fields like those of the completed ones.
use Rattle.std.proofs.Common.{◌≡◌, ℕ, ◌+◌, Bool, true, false, List, [], ◌∷◌, ◌++◌, map, refl, sym, ap, ◌∙◌}
use Rattle.std.specs.List.{flat_map}
use Rattle.std.proofs.lemmas.Grind.{flat_map-append}
use Rattle.wast_tree_map.proofs.Types.{type_at, rec_at}
use Rattle.wast_expand_keys.specs.Signatures.{Signature}
use Rattle.wast_expand_keys.specs.ImpliedTypes.{implied_signatures}
use Rattle.wast_base.specs.Filling.{one_if, given_if, with_ids_from, missing_id_count}
use Rattle.wast_expand_keys.specs.Expanders.{LookUp}
use Rattle.wast_expand_keys.specs.Expanded.{lacks_id, with_type_id, unnamed_type, implied_types, fields_with_types, found_for, bound_field, expanded_fields}
use Rattle.wast_expand_keys.specs.Completed.{fields_with_implied_types}
use Rattle.wast_resolve_laws.specs.Tree.{Rec, ModuleField}
use Rattle.wast_resolve_laws.specs.Tree.ty
use Rattle.wast_resolve_laws.specs.Tree.field
use Rattle.wast_resolve_rules.specs.Scopes.{shape_of, shapes_in, shapes_of_types}

-- A function of each field that ignores ids and indices of type uses has the same value on the list.
module _ {A : Type 0} (f : ModuleField → List A) where
  pub each_bound : (find : LookUp) → ((x : ModuleField) → f (bound_field find x) ≡ f x) → (xs : List ModuleField)
      → flat_map f (map (bound_field find) xs) ≡ flat_map f xs
  each_bound find bound [] = refl
  each_bound find bound (x ∷ xs) = ap (λ ys. ys ++ flat_map f (map (bound_field find) xs)) (bound x) ∙ ap (λ ys. f x ++ ys) (each_bound find bound xs)

  module _ (given : (n : ℕ) (x : ModuleField) → f (with_type_id n x) ≡ f x) where
    if_given : (b : Bool) (n : ℕ) (x : ModuleField) → f (given_if b with_type_id n x) ≡ f x
    if_given false n x = refl
    if_given true n x = given n x

    each_filled : (n : ℕ) (xs : List ModuleField) → flat_map f (with_ids_from lacks_id with_type_id n xs) ≡ flat_map f xs
    each_filled n [] = refl
    each_filled n (x ∷ xs) = ap (λ ys. ys ++ flat_map f (with_ids_from lacks_id with_type_id (n + one_if (lacks_id x)) xs))
        (if_given (lacks_id x) n x) ∙ ap (λ ys. f x ++ ys) (each_filled (n + one_if (lacks_id x)) xs)

    each_implied : (n : ℕ) (ss : List Signature) → flat_map f (implied_types n ss) ≡ flat_map f (map unnamed_type ss)
    each_implied n [] = refl
    each_implied n (s ∷ ss) = ap (λ ys. ys ++ flat_map f (implied_types (n + 1) ss)) (given n (unnamed_type s))
        ∙ ap (λ ys. f (unnamed_type s) ++ ys) (each_implied (n + 1) ss)

    pub all_stay : (n : ℕ) (fields : List ModuleField) → ((x : ModuleField) → f (bound_field (found_for fields n) x) ≡ f x)
        → flat_map f (expanded_fields n fields) ≡ flat_map f (fields_with_implied_types fields)
    all_stay n fields bound =
        let m : ℕ = n + missing_id_count lacks_id fields in
        each_bound (found_for fields n) bound (fields_with_types n fields)
        ∙ (flat_map-append f (with_ids_from lacks_id with_type_id n fields) (implied_types m (implied_signatures fields))
        ∙ (ap (λ ys. ys ++ flat_map f (implied_types m (implied_signatures fields))) (each_filled n fields)
        ∙ (ap (λ ys. flat_map f fields ++ ys) (each_implied m (implied_signatures fields))
        ∙ sym (flat_map-append f fields (map unnamed_type (implied_signatures fields))))))

bound_types : (find : LookUp) (x : ModuleField) → shapes_in (bound_field find x) ≡ shapes_in x
bound_types find (field.Ty t) = ap (λ (t : ty.«Type»). shape_of t.def.kind ∷ []) (type_at t).still
bound_types find (field.Rec r) = ap (λ (r : Rec). map (λ t. shape_of t.def.kind) r.types) (rec_at r).still
bound_types find x = refl

given_types : (n : ℕ) (x : ModuleField) → shapes_in (with_type_id n x) ≡ shapes_in x
given_types n (field.Ty t) = refl
given_types n x = refl

-- for any indices of type uses
pub bound_shapes : (find : LookUp) (xs : List ModuleField) → shapes_of_types (map (bound_field find) xs) ≡ shapes_of_types xs
bound_shapes find xs = each_bound shapes_in find (bound_types find) xs

pub same_shapes : (n : ℕ) (fields : List ModuleField) → shapes_of_types (expanded_fields n fields) ≡ shapes_of_types (fields_with_implied_types fields)
same_shapes n fields = all_stay shapes_in given_types n fields (bound_types (found_for fields n))
