-- Proves TypesAreTheSpace and WantsNoMore: a second pass changes nothing.
use Rattle.std.proofs.Common.{◌≡◌, ℕ, ◌+◌, Bool, true, false, List, [], ◌∷◌, ◌++◌, map, length, append-nil, Some, refl, sym, ap, ◌∙◌, arith}
use Rattle.std.specs.List.{flat_map}
use Rattle.std.proofs.lemmas.List.Concat.{flat_map-append}
use Rattle.wast_expand_types.specs.Tree.{ValType, ModuleField}
use Rattle.wast_expand_types.specs.Tree.field
use Rattle.wast_expand_keys.specs.Signatures.{Signature}
use Rattle.wast_expand_keys.specs.Numbers.{TypeNames, type_names, numbered_signature}
use Rattle.wast_expand_keys.specs.ImpliedTypes.{eligible_signatures, is_among, first_new, implied_signatures}
use Rattle.wast_expand_keys.specs.TypeSpace.{types_in, type_space}
use Rattle.wast_base.specs.Filling.{one_if, given_if, with_ids_from, missing_id_count}
use Rattle.wast_expand_keys.specs.Expanders.{LookUp}
use Rattle.wast_expand_keys.specs.Expanded.{lacks_id, with_type_id, implied_types, fields_with_types, found_for, bound_field, expanded_fields}
use Rattle.wast_expand_types.specs.Laws.{TypesAreTheSpace, StaysExpanded, WantsNoMore}
use Rattle.wast_expand_types.proofs.Adding.{types_again}
use Rattle.wast_expand_types.proofs.Staying.{fields_stay, fields_say, ty_stays, rec_stays}
use Rattle.wast_expand_types.proofs.HavingTypes.{uses_are_bound}
use Rattle.wast_expand_types.proofs.NumberedTypes.{implied_are_numbered}

-- Ids and resolved type uses change no type.
module _ (k : TypeNames) where
  types_given : (b : Bool) (n : ℕ) (x : ModuleField) → types_in k (given_if b with_type_id n x) ≡ types_in k x
  types_given false n x = refl
  types_given true n (field.Ty t) = refl
  types_given true n x = refl

  types_filled : (n : ℕ) (xs : List ModuleField) → flat_map (types_in k) (with_ids_from lacks_id with_type_id n xs) ≡ flat_map (types_in k) xs
  types_filled n [] = refl
  types_filled n (x ∷ xs) =
      ap (λ ts. ts ++ flat_map (types_in k) (with_ids_from lacks_id with_type_id (n + one_if (lacks_id x)) xs)) (types_given (lacks_id x) n x)
      ∙ ap (λ ts. types_in k x ++ ts) (types_filled (n + one_if (lacks_id x)) xs)

  types_bound_in : (find : LookUp) (x : ModuleField) → types_in k (bound_field find x) ≡ types_in k x
  types_bound_in find (field.Ty t) = ap (types_in k) (ty_stays find t)
  types_bound_in find (field.Rec r) = ap (types_in k) (rec_stays find r)
  types_bound_in find x = refl

  types_bound : (find : LookUp) (xs : List ModuleField) → flat_map (types_in k) (map (bound_field find) xs) ≡ flat_map (types_in k) xs
  types_bound find [] = refl
  types_bound find (x ∷ xs) = ap (λ ts. ts ++ flat_map (types_in k) (map (bound_field find) xs)) (types_bound_in find x)
      ∙ ap (λ ts. types_in k x ++ ts) (types_bound find xs)

  types_implied : (n : ℕ) (ss : List Signature) → flat_map (types_in k) (implied_types n ss) ≡ map Some (map (numbered_signature k) ss)
  types_implied n [] = refl
  types_implied n (s ∷ ss) =
      ap (λ (vs : List ValType). Some (numbered_signature k (vs, s.1)) ∷ flat_map (types_in k) (implied_types (n + 1) ss)) (types_again s.0)
      ∙ ap (λ ts. Some (numbered_signature k s) ∷ ts) (types_implied (n + 1) ss)

pub types_typed : (n : ℕ) (fields : List ModuleField) → flat_map (types_in (type_names fields)) (fields_with_types n fields) ≡ type_space fields
types_typed n fields =
    let k : TypeNames = type_names fields in
    let m : ℕ = n + missing_id_count lacks_id fields in
    flat_map-append (types_in k) (with_ids_from lacks_id with_type_id n fields) (implied_types m (implied_signatures fields))
    ∙ (ap (λ ts. ts ++ flat_map (types_in k) (implied_types m (implied_signatures fields))) (types_filled k n fields)
    ∙ ap (λ ts. flat_map (types_in k) fields ++ ts) (types_implied k m (implied_signatures fields) ∙ ap (map Some) (implied_are_numbered fields)))

pub types_are_the_space : TypesAreTheSpace
types_are_the_space n fields = types_bound (type_names fields) (found_for fields n) (fields_with_types n fields) ∙ types_typed n fields

-- Each type has its id.
lacks_given : (x : ModuleField) (b : Bool) (n : ℕ) → b ≡ lacks_id x → lacks_id (given_if b with_type_id n x) ≡ false
lacks_given (field.Ty t) true n h = refl
lacks_given x true n h = refl
lacks_given x false n h = sym h

lacks_bound : (find : LookUp) (x : ModuleField) → lacks_id (bound_field find x) ≡ lacks_id x
lacks_bound find (field.Ty t) = refl
lacks_bound find x = refl

pub none_lacks_after : (n m : ℕ) (ss : List Signature) (xs : List ModuleField)
    → missing_id_count lacks_id (with_ids_from lacks_id with_type_id n xs ++ implied_types m ss) ≡ 0
none_lacks_after n m ss (x ∷ xs) =
    ap (λ b. one_if b + missing_id_count lacks_id (with_ids_from lacks_id with_type_id (n + one_if (lacks_id x)) xs ++ implied_types m ss))
    (lacks_given x (lacks_id x) n refl) ∙ ap (λ k. 0 + k) (none_lacks_after (n + one_if (lacks_id x)) m ss xs)
none_lacks_after n m [] [] = refl
none_lacks_after n m (s ∷ ss) [] = ap (λ k. 0 + k) (none_lacks_after n (m + 1) ss [])

wanted_bound : (find : LookUp) (xs : List ModuleField) → missing_id_count lacks_id (map (bound_field find) xs) ≡ missing_id_count lacks_id xs
wanted_bound find [] = refl
wanted_bound find (x ∷ xs) = ap (λ b. one_if b + missing_id_count lacks_id (map (bound_field find) xs)) (lacks_bound find x)
    ∙ ap (λ k. one_if (lacks_id x) + k) (wanted_bound find xs)

none_lacks : (n : ℕ) (fields : List ModuleField) → missing_id_count lacks_id (expanded_fields n fields) ≡ 0
none_lacks n fields = wanted_bound (found_for fields n) (fields_with_types n fields)
    ∙ none_lacks_after n (n + missing_id_count lacks_id fields) (implied_signatures fields) fields

pub filled_none : {A : Type 0} (wants : A → Bool) (give : ℕ → A → A) (m : ℕ) (xs : List A) → missing_id_count wants xs ≡ 0 → with_ids_from wants give m xs ≡ xs
filled_none {A} wants give m [] h = refl
filled_none {A} wants give m (x ∷ xs) h = none_case (wants x) x xs h (λ k. filled_none wants give (m + one_if (wants x)) xs k)
  where
    none_case : (b : Bool) (x : A) (xs : List A) → one_if b + missing_id_count wants xs ≡ 0
        → (missing_id_count wants xs ≡ 0 → with_ids_from wants give (m + one_if b) xs ≡ xs)
        → given_if b give m x ∷ with_ids_from wants give (m + one_if b) xs ≡ x ∷ xs
    none_case true x xs h f = absurd (omega (arith, h))
    none_case false x xs h f = ap (λ ys. x ∷ ys) (f (omega (arith, h)))

-- No type is appended.
implied_none : (n : ℕ) (fields : List ModuleField) → implied_signatures (expanded_fields n fields) ≡ []
implied_none n fields = ap (λ ss. first_new (is_among (eligible_signatures (expanded_fields n fields)))
    (map (numbered_signature (type_names (expanded_fields n fields))) ss)) (uses_are_bound n fields)

pub wants_no_more : WantsNoMore
wants_no_more n fields = ap (λ ss. missing_id_count lacks_id (expanded_fields n fields) + length ss) (implied_none n fields)
    ∙ ap (λ k. k + 0) (none_lacks n fields)

typed_again : (m n : ℕ) (fields : List ModuleField) → fields_with_types m (expanded_fields n fields) ≡ expanded_fields n fields
typed_again m n fields =
    let xs : List ModuleField = expanded_fields n fields in
    ap (λ ss. with_ids_from lacks_id with_type_id m xs ++ implied_types (m + missing_id_count lacks_id xs) ss) (implied_none n fields)
    ∙ (append-nil (with_ids_from lacks_id with_type_id m xs) ∙ filled_none lacks_id with_type_id m xs (none_lacks n fields))

pub stays_expanded : StaysExpanded
stays_expanded m n fields =
    let xs : List ModuleField = expanded_fields n fields in
    let find : LookUp = found_for xs m in
    ap (map (bound_field find)) (typed_again m n fields)
    ∙ fields_stay find xs (uses_are_bound n fields) (fields_say (found_for fields n) (fields_with_types n fields))
