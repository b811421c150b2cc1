-- The steps of the pass, one after another.
use Rattle.std.proofs.Common.{◌≡◌, ℕ, ◌+◌, ◌<◌, Bool, true, false, List, [], ◌∷◌, ◌++◌, length, get_or, take, map, append-nil, Option, Some}
use Rattle.std.proofs.Common.{None, is_none, is_some, refl, sym, ap, ◌∙◌, subst, arith}
use mathlib.Core.Path.{fun_ext}
use Rattle.std.specs.List.{flat_map}
use Rattle.std.specs.Prelude.{All}
use Rattle.std.specs.Map.{keys_of}
use Rattle.std.proofs.lemmas.Map.Made.{is_some-lookup}
use Rattle.std.proofs.lemmas.List.{take_more, map-append}
use Rattle.std.proofs.lemmas.List.Concat.{flat_map-append}
use Rattle.std.proofs.lemmas.List.Elements.{All-cons, All-head, All-tail}
use Rattle.wast_base.specs.Spaces.{position_of}
use Rattle.wast_base.specs.Ids.{Name, gensym_id}
use Rattle.wast_expand_types.specs.Tree.{Id, Index, ModuleField}
use Rattle.wast_expand_types.specs.Tree.field
use Rattle.wast_expand_keys.specs.Signatures.{Signature, same_signature}
use Rattle.wast_tree_nodes.specs.Sites.{if_there, in_field, in_module}
use Rattle.wast_expand_keys.specs.NeedingUses.{needed_in, needed_signatures}
use Rattle.wast_expand_keys.specs.Numbers.{TypeNames, type_names, numbered_signature}
use Rattle.wast_expand_keys.specs.EligibleTypes.{taken_by}
use Rattle.wast_expand_keys.specs.ImpliedTypes.{eligible_in, eligible_signatures, is_among, first_new, implied_signatures}
use Rattle.wast_base.specs.Filling.{one_if, given_if, with_ids_from, missing_id_count}
use Rattle.wast_expand_keys.specs.Expanders.{BoundSignatures, LookUp, Bound, numbers_in, index_of, with_more, found_in, Extends}
use Rattle.wast_expand_keys.specs.Expanded.{lacks_id, with_type_id, implied_types, binding_of, bindings_in, bindings, found_for}
use Rattle.wast_expand_keys.specs.Expanded.{bound_field, expanded_fields, type_id_count}
use Rattle.wast_expand_types.specs.Binding.{new_signatures, new_types, new_bindings, next_after, AddsTypes, IsPassedField}
use Rattle.wast_expand_types.specs.declared.binder.Binder.{Binder}
use Rattle.wast_expand_keys.proofs.Bound.{lookup-append}
use Rattle.wast_expand_types.proofs.Adding.{with_more_twice, adds_as, more_then}
use Rattle.wast_expand_types.proofs.Needing.{needed_both, needed_each, ty_none, made_type}
use Rattle.wast_expand_types.proofs.Staying.{ty_stays}

-- the types of one more field are added
pub extends_more : (k : TypeNames) (old new later : BoundSignatures) (xs : List ModuleField) (i : ℕ) (x : ModuleField) → i < length xs → x ≡ get_or xs i x
    → Extends old new (bindings k (take i xs)) → Extends new later (bindings_in k x) → Extends old later (bindings k (take (i + 1) xs))
extends_more k old new later xs i x lt is h g =
    let more : bindings k (take (i + 1) xs) ≡ bindings k (take i xs) ++ bindings_in k x =
    ap (bindings k) (take_more xs i x lt ∙ ap (λ y. take i xs ++ y ∷ []) (sym is))
    ∙ (flat_map-append (bindings_in k) (take i xs) (x ∷ []) ∙ ap (λ ys. bindings k (take i xs) ++ ys) (append-nil (bindings_in k x))) in
    λ s. g s ∙ (ap (λ (find : LookUp). with_more find (bindings_in k x) s) (fun_ext h)
    ∙ (with_more_twice (index_of old) (bindings k (take i xs)) (bindings_in k x) s ∙ ap (λ bs. with_more (index_of old) bs s) (sym more)))

-- ids of types change no body
passed_given : (b : Bool) (n : ℕ) (x : ModuleField) → IsPassedField x → IsPassedField (given_if b with_type_id n x)
passed_given false n x h = h
passed_given true n (field.Ty t) h = tt
passed_given true n x h = h

pub all_passed : (n : ℕ) (xs : List ModuleField) → All IsPassedField xs → All IsPassedField (with_ids_from lacks_id with_type_id n xs)
all_passed n [] h = h
all_passed n (x ∷ xs) h =
    All-cons IsPassedField (given_if (lacks_id x) with_type_id n x) (with_ids_from lacks_id with_type_id (n + one_if (lacks_id x)) xs)
    (passed_given (lacks_id x) n x (All-head IsPassedField x xs h))
    (all_passed (n + one_if (lacks_id x)) xs (All-tail IsPassedField x xs h))

needed_given : (b : Bool) (n : ℕ) (x : ModuleField) → needed_in (in_field (given_if b with_type_id n x)) ≡ needed_in (in_field x)
needed_given false n x = refl
needed_given true n (field.Ty t) = ty_none (record t { id = Some (gensym_id n t.span) }) ∙ sym (ty_none t)
needed_given true n x = refl

-- ids of types change no type use
pub needed_filled : (n : ℕ) (xs : List ModuleField) → needed_signatures (with_ids_from lacks_id with_type_id n xs) ≡ needed_signatures xs
needed_filled n [] = refl
needed_filled n (x ∷ xs) =
    let rest : List ModuleField = with_ids_from lacks_id with_type_id (n + one_if (lacks_id x)) xs in
    needed_both (in_field (given_if (lacks_id x) with_type_id n x)) (in_module rest)
    ∙ (ap (λ ss. ss ++ needed_signatures rest) (needed_given (lacks_id x) n x)
    ∙ (ap (λ ss. needed_in (in_field x) ++ ss) (needed_filled (n + one_if (lacks_id x)) xs) ∙ sym (needed_both (in_field x) (in_module xs))))

keys_of_taken : (o : Option Signature) (id : Id) → keys_of (binding_of o (Some id)) ≡ if_there (λ s. s ∷ []) o
keys_of_taken None id = refl
keys_of_taken (Some s) id = refl

keys-append : (a b : BoundSignatures) → keys_of (a ++ b) ≡ keys_of a ++ keys_of b
keys-append a b = map-append (λ (e : Signature × Index). e.0) a b

module _ (k : TypeNames) where
  keys_of_type : (n : ℕ) (x : ModuleField) (b : Bool) → b ≡ lacks_id x → keys_of (bindings_in k (given_if b with_type_id n x)) ≡ eligible_in k x
  keys_of_type n (field.Ty t) true h = keys_of_taken (taken_by k t.def) (gensym_id n t.span)
  keys_of_type n (field.Ty t) false h = there t.id h
    where
      there : (id : Option Id) → false ≡ is_none id → keys_of (binding_of (taken_by k t.def) id) ≡ if_there (λ s. s ∷ []) (taken_by k t.def)
      there None h = absurd cc
      there (Some id) h = keys_of_taken (taken_by k t.def) id
  keys_of_type n x true h = refl
  keys_of_type n x false h = refl

  -- Once each type has an id, all eligible types are added.
  keys_of_filled : (n : ℕ) (xs : List ModuleField) → keys_of (bindings k (with_ids_from lacks_id with_type_id n xs)) ≡ flat_map (eligible_in k) xs
  keys_of_filled n [] = refl
  keys_of_filled n (x ∷ xs) =
      let rest : List ModuleField = with_ids_from lacks_id with_type_id (n + one_if (lacks_id x)) xs in
      keys-append (bindings_in k (given_if (lacks_id x) with_type_id n x)) (bindings k rest)
      ∙ (ap (λ ks. ks ++ keys_of (bindings k rest)) (keys_of_type n x (lacks_id x) refl)
      ∙ ap (λ ks. eligible_in k x ++ ks) (keys_of_filled (n + one_if (lacks_id x)) xs))

  -- a signature that an eligible type has
  pub eligible_known : (n : ℕ) (xs : List ModuleField) (s : Signature)
      → is_some (index_of (bindings k (with_ids_from lacks_id with_type_id n xs)) s) ≡ is_among (flat_map (eligible_in k) xs) s
  eligible_known n xs s = is_some-lookup (same_signature s) (bindings k (with_ids_from lacks_id with_type_id n xs))
      ∙ ap (λ ks. is_among ks s) (keys_of_filled n xs)

bound_implied : (find : LookUp) (n : ℕ) (ss : List Signature) → map (bound_field find) (implied_types n ss) ≡ implied_types n ss
bound_implied find n [] = refl
bound_implied find n (s ∷ ss) = λ i. ty_stays find (made_type n s) i ∷ bound_implied find (n + 1) ss i

-- The types of fs get their ids and are added. seen is what is read of the list, old has the ids of the types of fs and
-- no signatures, and no type is appended yet.
module _ (n : ℕ) (fs named seen : List ModuleField) (old : Bound) (a : Binder) (named_is : named ≡ with_ids_from lacks_id with_type_id n fs)
    (next_is : a.gensym ≡ n + missing_id_count lacks_id fs)
    (seen_is : seen ≡ named) (knows : (q : Name) → numbers_in old q ≡ type_names fs q) (old_is : old.bound ≡ []) (none_is : a.implied ≡ [])
    (same : a.cx.names ≡ old.names)
    (types : Extends old.bound a.cx.bound (bindings (numbers_in old) seen)) where
  abbrev k : TypeNames
  k = type_names fs

  old_names : numbers_in old ≡ k
  old_names = fun_ext knows

  names : numbers_in a.cx ≡ k
  names = (λ i name. position_of name (same i)) ∙ old_names

  cx_is : Extends [] a.cx.bound (bindings k named)
  cx_is = subst (λ (f : TypeNames). Extends [] a.cx.bound (bindings f named)) old_names
      (subst (λ bs. Extends bs a.cx.bound (bindings (numbers_in old) named)) old_is
      (subst (λ xs. Extends old.bound a.cx.bound (bindings (numbers_in old) xs)) seen_is types))

  finds : index_of a.cx.bound ≡ index_of (bindings k named)
  finds = fun_ext cx_is

  -- the signatures that type uses need and no eligible type has
  new_is_implied : new_signatures a.cx (needed_signatures named) ≡ implied_signatures fs
  new_is_implied =
      let known : (s : Signature) → is_some (index_of a.cx.bound s) ≡ is_among (eligible_signatures fs) s =
      λ s. ap is_some (cx_is s) ∙ (ap (λ xs. is_some (index_of (bindings k xs) s)) named_is ∙ eligible_known k n fs s) in
      ap (λ (f : TypeNames). first_new (λ s. is_some (index_of a.cx.bound s)) (map (numbered_signature f) (needed_signatures named))) names
      ∙ (ap (λ (f : Signature → Bool). first_new f (map (numbered_signature k) (needed_signatures named))) (fun_ext known)
      ∙ ap (λ ss. first_new (is_among (eligible_signatures fs)) (map (numbered_signature k) ss)) (ap needed_signatures named_is ∙ needed_filled n fs))

  -- the type uses of each field after those of the one before it
  in_each : needed_signatures named ≡ flat_map (λ x. needed_in (in_field x)) named
  in_each = needed_each in_field named

  pub counts : next_after a (flat_map (λ x. needed_in (in_field x)) named) ≡ n + type_id_count fs
  counts =
      let e : next_after a (flat_map (λ x. needed_in (in_field x)) named) ≡ next_after a (needed_signatures named) = ap (next_after a) (sym in_each) in
      e ∙ (let l : length (new_signatures a.cx (needed_signatures named)) ≡ length (implied_signatures fs) = ap length new_is_implied in omega (arith, next_is))

  types_are : new_types a (needed_signatures named) ≡ implied_types (n + missing_id_count lacks_id fs) (implied_signatures fs)
  types_are = ap (implied_types a.gensym) new_is_implied ∙ ap (λ m. implied_types m (implied_signatures fs)) next_is

  finds_all : found_in a.cx (new_bindings a (needed_signatures named)) ≡ found_for fs n
  finds_all = fun_ext (λ (s : Signature).
      let t : Signature = numbered_signature k s in
      let new : List ModuleField = implied_types (n + missing_id_count lacks_id fs) (implied_signatures fs) in
      ap (λ (f : TypeNames). with_more (index_of a.cx.bound) (bindings f (new_types a (needed_signatures named))) (numbered_signature f s)) names
      ∙ (ap (λ (find : LookUp). with_more find (bindings k (new_types a (needed_signatures named))) t) finds
      ∙ (ap (λ xs. with_more (index_of (bindings k named)) (bindings k xs) t) types_are
      ∙ (sym (lookup-append (same_signature t) (bindings k named) (bindings k new))
      ∙ (ap (λ bs. index_of bs t) (sym (flat_map-append (bindings_in k) named new)) ∙ ap (λ xs. index_of (bindings k (xs ++ new)) t) named_is)))))

  pub lists : {b : Binder} {uses out : List ModuleField} → AddsTypes a b (flat_map (λ x. needed_in (in_field x)) named)
      → ((more : BoundSignatures) → uses ≡ map (bound_field (found_in b.cx more)) named) → out ≡ uses ++ b.implied → out ≡ expanded_fields n fs
  lists {b} {uses} {out} each bound out_is =
      let adds : AddsTypes a b (needed_signatures named) = adds_as (sym in_each) each in
      let new : List ModuleField = implied_types (n + missing_id_count lacks_id fs) (implied_signatures fs) in
      let found : found_in b.cx [] ≡ found_for fs n = more_then adds []
      ∙ (ap (λ bs. found_in a.cx bs) (append-nil (new_bindings a (needed_signatures named))) ∙ finds_all) in
      out_is ∙ (ap (λ us. us ++ b.implied) (bound [] ∙ (ap (λ (find : LookUp). map (bound_field find) named) found
      ∙ ap (map (bound_field (found_for fs n))) named_is))
      ∙ (ap (λ is. map (bound_field (found_for fs n)) (with_ids_from lacks_id with_type_id n fs) ++ is) (adds.fields
      ∙ (ap (λ xs. xs ++ new_types a (needed_signatures named)) none_is
      ∙ (types_are ∙ sym (bound_implied (found_for fs n) (n + missing_id_count lacks_id fs) (implied_signatures fs)))))
      ∙ sym (map-append (bound_field (found_for fs n)) (with_ids_from lacks_id with_type_id n fs) new)))
