-- Proves TakesTheTypeAtItsIndex: a signature is resolved to the id of the type at its index.
use Rattle.std.proofs.Common.{◌≡◌, ℕ, ◌+◌, Bool, true, false, cond, List, [], ◌∷◌, ◌++◌, map, length, length-append, append_assoc, Option}
use Rattle.std.proofs.Common.{Some, None, is_none, refl, sym, ap, ◌∙◌, arith}
use Rattle.std.specs.List.{flat_map, position, position_from, slice_get}
use Rattle.std.proofs.lemmas.Iterator.Adapters.{position_from-zero}
use Rattle.wast_expand_types.specs.Tree.{Id, Index, ModuleField}
use Rattle.wast_expand_types.specs.Tree.index
use Rattle.wast_expand_types.specs.Tree.ty
use Rattle.wast_expand_types.specs.Tree.field
use Rattle.wast_expand_keys.specs.Signatures.{Signature, same_signature}
use Rattle.wast_expand_keys.specs.Numbers.{TypeNames, type_names, numbered_signature}
use Rattle.wast_expand_keys.specs.EligibleTypes.{taken_by}
use Rattle.wast_expand_keys.specs.ImpliedTypes.{implied_signatures}
use Rattle.wast_expand_keys.specs.TypeSpace.{types_in, has_signature, type_ids, index_by_id, index_by_id_at}
use Rattle.wast_base.specs.Filling.{one_if, missing_id_count}
use Rattle.wast_expand_keys.specs.Expanders.{BoundSignatures, index_of}
use Rattle.wast_expand_keys.specs.Expanded.{lacks_id, fields_with_types, binding_of, bindings}
use Rattle.wast_expand_types.specs.Laws.{TakesTheTypeAtItsIndex}
use Rattle.wast_expand_types.proofs.AtRest.{types_typed, none_lacks_after}

stands_next : (before : List (Option Id)) (id : Option Id) (rest : List (Option Id)) → slice_get (before ++ id ∷ rest) (length before) ≡ Some id
stands_next [] id rest = refl
stands_next (b ∷ before) id rest = stands_next before id rest

-- one more id before
one_further : (before : List (Option Id)) (id : Option Id) (ids : List (Option Id)) (types : List (Option Signature)) (s : Signature)
    → index_by_id_at (position_from (has_signature s) (length (before ++ id ∷ [])) types) ((before ++ id ∷ []) ++ ids) ≡ index_by_id_at
    (position_from (has_signature s) (length before + 1) types) (before ++ id ∷ ids)
one_further before id ids types s = λ i. index_by_id_at (position_from (has_signature s) (length-append before (id ∷ []) i) types)
    (append_assoc before (id ∷ []) ids i)

-- one type, before the rest
type_placed : (o : Option Signature) (id : Option Id) (before ids : List (Option Id)) (rest : BoundSignatures) (types : List (Option Signature))
    (s : Signature) (n : ℕ) → one_if (is_none id) + n ≡ 0
    → index_of rest s ≡ index_by_id_at (position_from (has_signature s) (length before + 1) types) (before ++ id ∷ ids)
    → index_of (binding_of o id ++ rest) s ≡ index_by_id_at (position_from (has_signature s) (length before) (o ∷ types)) (before ++ id ∷ ids)
type_placed None id before ids rest types s n h r = r
type_placed (Some t) None before ids rest types s n h r = absurd (omega (arith, h))
type_placed (Some t) (Some id) before ids rest types s n h r = here (same_signature s t) r
  where
    here : (b : Bool) → index_of rest s ≡ index_by_id_at (position_from (has_signature s) (length before + 1) types) (before ++ Some id ∷ ids)
        → cond b (Some (index.Id id)) (index_of rest s) ≡ index_by_id_at
        (cond b (Some (length before)) (position_from (has_signature s) (length before + 1) types)) (before ++ Some id ∷ ids)
    here true r = sym (ap index_by_id (stands_next before (Some id) ids))
    here false r = r

-- the members of a group, before the rest
members_placed : (ms : List ty.«Type») (before ids : List (Option Id)) (types : List (Option Signature)) (s : Signature) (o : Option Index)
    → ((longer : List (Option Id)) → o ≡ index_by_id_at (position_from (has_signature s) (length longer) types) (longer ++ ids))
    → o ≡ index_by_id_at (position_from (has_signature s) (length before) (map (λ t. None) ms ++ types)) (before ++ (map (λ (t : ty.«Type»). t.id) ms ++ ids))
members_placed [] before ids types s o rest = rest before
members_placed (m ∷ ms) before ids types s o rest =
    members_placed ms (before ++ m.id ∷ []) ids types s o rest
    ∙ one_further before m.id (map (λ (t : ty.«Type»). t.id) ms ++ ids) (map (λ t. None) ms ++ types) s

placed : (k : TypeNames) (before : List (Option Id)) (xs : List ModuleField) (s : Signature) → missing_id_count lacks_id xs ≡ 0
    → index_of (bindings k xs) s ≡ index_by_id_at (position_from (has_signature s) (length before) (flat_map (types_in k) xs)) (before ++ type_ids xs)
placed k before [] s h = refl
placed k before (field.Ty t ∷ xs) s h =
    let rest : missing_id_count lacks_id xs ≡ 0 = omega (arith, h) in
    type_placed (taken_by k t.def) t.id before (type_ids xs) (bindings k xs) (flat_map (types_in k) xs) s (missing_id_count lacks_id xs) h
    (placed k (before ++ t.id ∷ []) xs s rest ∙ one_further before t.id (type_ids xs) (flat_map (types_in k) xs) s)
placed k before (field.Rec r ∷ xs) s h =
    let rest : missing_id_count lacks_id xs ≡ 0 = omega (arith, h) in
    members_placed r.types before (type_ids xs) (flat_map (types_in k) xs) s (index_of (bindings k xs) s) (λ longer. placed k longer xs s rest)
placed k before (x ∷ xs) s h = placed k before xs s (omega (arith, h))

pub takes_the_type_at_its_index : TakesTheTypeAtItsIndex
takes_the_type_at_its_index n fields s =
    let k : TypeNames = type_names fields in
    let t : Signature = numbered_signature k s in
    let xs : List ModuleField = fields_with_types n fields in
    placed k [] xs t (none_lacks_after n (n + missing_id_count lacks_id fields) (implied_signatures fields) fields)
    ∙ ap (λ i. index_by_id_at i (type_ids xs)) (sym (position_from-zero (has_signature t) (flat_map (types_in k) xs))
    ∙ ap (λ ts. position (has_signature t) ts) (types_typed n fields))
