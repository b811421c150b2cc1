-- A signature has an index exactly if it has a position in the type space.
use Rattle.std.proofs.Common.{◌≡◌, ℕ, ◌+◌, Bool, true, false, cond, ◌||◌, List, [], ◌∷◌, ◌++◌, map, Option, Some, None, is_none, is_some}
use Rattle.std.proofs.Common.{refl, sym, ap, ◌∙◌, arith}
use Rattle.std.specs.List.{flat_map, position, list_any}
use Rattle.std.proofs.lemmas.Iterator.Adapters.{position_from-zero}
use Rattle.wast_base.proofs.ListTests.{found_from}
use Rattle.wast_expand_types.specs.Tree.{Id, ModuleField}
use Rattle.wast_expand_types.specs.Tree.index
use Rattle.wast_expand_types.specs.Tree.ty
use Rattle.wast_expand_types.specs.Tree.field
use Rattle.wast_expand_keys.specs.Signatures.{Signature, same_signature}
use Rattle.wast_expand_keys.specs.Numbers.{TypeNames, type_names, numbered_signature}
use Rattle.wast_expand_keys.specs.EligibleTypes.{taken_by}
use Rattle.wast_expand_keys.specs.ImpliedTypes.{implied_signatures}
use Rattle.wast_expand_keys.specs.TypeSpace.{types_in, has_signature, type_space, index_for}
use Rattle.wast_base.specs.Filling.{one_if, missing_id_count}
use Rattle.wast_expand_keys.specs.Expanders.{BoundSignatures, index_of}
use Rattle.wast_expand_keys.specs.Expanded.{lacks_id, fields_with_types, binding_of, bindings, found_for}
use Rattle.wast_expand_types.proofs.AtRest.{types_typed, none_lacks_after}

found : {A : Type 0} (p : A → Bool) (xs : List A) → is_some (position p xs) ≡ list_any p xs
found p xs = ap is_some (position_from-zero p xs) ∙ found_from p 0 xs

module _ (s : Signature) where
  abbrev is_there : List (Option Signature) → Bool
  is_there types = list_any (has_signature s) types

  -- a type that has its id, before others
  type_there : (o : Option Signature) (id : Option Id) (rest : BoundSignatures) (types : List (Option Signature)) (n : ℕ) → one_if (is_none id) + n ≡ 0
      → is_some (index_of rest s) ≡ is_there types → is_some (index_of (binding_of o id ++ rest) s) ≡ is_there (o ∷ types)
  type_there None id rest types n h r = r
  type_there (Some t) None rest types n h r = absurd (omega (arith, h))
  type_there (Some t) (Some id) rest types n h r = by_test (same_signature s t) r
    where
      by_test : (b : Bool) → is_some (index_of rest s) ≡ is_there types → is_some (cond b (Some (index.Id id)) (index_of rest s)) ≡ b || is_there types
      by_test true r = refl
      by_test false r = r

  -- a member of a group is not matched
  members_there : (ms : List ty.«Type») (types : List (Option Signature)) → is_there (map (λ t. None) ms ++ types) ≡ is_there types
  members_there [] types = refl
  members_there (m ∷ ms) types = members_there ms types

  there : (k : TypeNames) (xs : List ModuleField) → missing_id_count lacks_id xs ≡ 0
      → is_some (index_of (bindings k xs) s) ≡ is_there (flat_map (types_in k) xs)
  there k [] h = refl
  there k (field.Ty t ∷ xs) h = type_there (taken_by k t.def) t.id (bindings k xs) (flat_map (types_in k) xs) (missing_id_count lacks_id xs) h
      (there k xs (omega (arith, h)))
  there k (field.Rec r ∷ xs) h = there k xs (omega (arith, h)) ∙ sym (members_there r.types (flat_map (types_in k) xs))
  there k (x ∷ xs) h = there k xs (omega (arith, h))

pub bound_where_there : (n : ℕ) (fields : List ModuleField) (s : Signature) → is_some (found_for fields n s) ≡ is_some (index_for fields s)
bound_where_there n fields s =
    let t : Signature = numbered_signature (type_names fields) s in
    there t (type_names fields) (fields_with_types n fields) (none_lacks_after n (n + missing_id_count lacks_id fields) (implied_signatures fields) fields)
    ∙ (ap (λ ts. list_any (has_signature t) ts) (types_typed n fields) ∙ sym (found (has_signature t) (type_space fields)))
