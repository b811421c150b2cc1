-- Proves UsesAreBound, ImpliedAreNew and ImpliedAreDistinct: each signature that is needed has its type.
use Rattle.std.proofs.Common.{◌≡◌, ℕ, ◌+◌, Bool, true, false, not, cond, ◌||◌, ◌&&◌, List, [], ◌∷◌, ◌++◌, append-nil, is_some, refl, sym, ap, ◌∙◌}
use mathlib.Core.Path.{fun_ext}
use Rattle.std.proofs.Math.Bool.{or_assoc}
use Rattle.std.specs.List.{list_all, list_any}
use Rattle.std.proofs.lemmas.List.Concat.{flat_map-append}
use Rattle.std.proofs.lemmas.List.Folds.{list_all-map}
use Rattle.wast_tree_nodes.specs.Sites.{in_field, in_module}
use Rattle.wast_expand_types.specs.Tree.{ModuleField}
use Rattle.wast_expand_keys.specs.Signatures.{Signature, same_signature}
use Rattle.wast_expand_keys.specs.SignatureLaws.{signatures_equiv}
use Rattle.wast_expand_keys.specs.NeedingUses.{needed_in, needed_signatures}
use Rattle.wast_expand_keys.specs.Numbers.{TypeNames, type_names, numbered_signature}
use Rattle.wast_expand_keys.specs.ImpliedTypes.{eligible_signatures, needed_numbers, is_among, first_new, implied_signatures, are_distinct}
use Rattle.wast_base.specs.Filling.{with_ids_from, missing_id_count}
use Rattle.wast_expand_keys.specs.Expanders.{index_of}
use Rattle.wast_expand_keys.specs.Expanded.{lacks_id, with_type_id, implied_type, implied_types, fields_with_types, bindings_in, bindings, found_for}
use Rattle.wast_expand_types.specs.Laws.{UsesAreBound, ImpliedAreNew, ImpliedAreDistinct}
use Rattle.wast_expand_keys.proofs.Bound.{lookup-append}
use Rattle.wast_expand_types.proofs.Adding.{known_after}
use Rattle.wast_expand_types.proofs.Needing.{needed_both, ty_none, made_type}
use Rattle.wast_expand_types.proofs.Staying.{fields_bound}
use Rattle.wast_expand_types.proofs.Expanding.{needed_filled, eligible_known}
use Rattle.wast_expand_types.proofs.NumberedTypes.{implied_are_numbered}

-- Each signature is known, or new once.
known_or_new : (known : Signature → Bool) (ss : List Signature) → list_all (λ t. known t || is_among (first_new known ss) t) ss ≡ true
known_or_new known [] = refl
known_or_new known (s ∷ ss) = new_case (known s) known s ss refl (known_or_new known ss) (known_or_new (λ t. known t || same_signature t s) ss)
  where
    new_case : (b : Bool) (known : Signature → Bool) (s : Signature) (ss : List Signature) → known s ≡ b
        → list_all (λ t. known t || is_among (first_new known ss) t) ss ≡ true
        → list_all (λ t. (known t || same_signature t s) || is_among (first_new (λ t. known t || same_signature t s) ss) t) ss ≡ true
        → list_all (λ t. known t || is_among (cond b (first_new known ss) (s ∷ first_new (λ t. known t || same_signature t s) ss)) t) (s ∷ ss) ≡ true
    new_case true known s ss k p q = ap (λ b. (b || is_among (first_new known ss) s) && list_all (λ t. known t || is_among (first_new known ss) t) ss) k ∙ p
    new_case false known s ss k p q =
        let new : List Signature = first_new (λ t. known t || same_signature t s) ss in
        ap (λ b. (b || (same_signature s s || is_among new s)) && list_all (λ t. known t || is_among (s ∷ new) t) ss) k
        ∙ (ap (λ b. (b || is_among new s) && list_all (λ t. known t || is_among (s ∷ new) t) ss) (signatures_equiv.refl s)
        ∙ (ap (λ (f : Signature → Bool). list_all f ss) (fun_ext (λ (t : Signature). sym (or_assoc (known t) (same_signature t s) (is_among new t)))) ∙ q))

-- a known signature is not new
any_less : (p q : Signature → Bool) (ss : List Signature) → list_any (λ t. p t || q t) ss ≡ false → list_any p ss ≡ false
any_less p q [] h = refl
any_less p q (s ∷ ss) h = less_case (p s) (q s) (list_any (λ t. p t || q t) ss) (list_any p ss) (any_less p q ss) h
  where
    less_case : (a b c d : Bool) → (c ≡ false → d ≡ false) → ((a || b) || c) ≡ false → (a || d) ≡ false
    less_case true b c d f h = h
    less_case false true c d f h = absurd cc
    less_case false false c d f h = f h

none_known : (known : Signature → Bool) (ss : List Signature) → list_any known (first_new known ss) ≡ false
none_known known [] = refl
none_known known (s ∷ ss) = new_case (known s) known s ss refl (none_known known ss)
    (any_less known (λ t. same_signature t s) (first_new (λ t. known t || same_signature t s) ss) (none_known (λ t. known t || same_signature t s) ss))
  where
    new_case : (b : Bool) (known : Signature → Bool) (s : Signature) (ss : List Signature) → known s ≡ b → list_any known (first_new known ss) ≡ false
        → list_any known (first_new (λ t. known t || same_signature t s) ss) ≡ false
        → list_any known (cond b (first_new known ss) (s ∷ first_new (λ t. known t || same_signature t s) ss)) ≡ false
    new_case true known s ss k p q = p
    new_case false known s ss k p q = ap (λ b. b || list_any known (first_new (λ t. known t || same_signature t s) ss)) k ∙ q

pub implied_are_new : ImpliedAreNew
implied_are_new fields = none_known (is_among (eligible_signatures fields)) (needed_numbers fields)

-- each new signature occurs once
any_second : (p q : Signature → Bool) (ss : List Signature) → list_any (λ t. p t || q t) ss ≡ false → list_any q ss ≡ false
any_second p q [] h = refl
any_second p q (s ∷ ss) h = second_case (p s) (q s) (list_any (λ t. p t || q t) ss) (list_any q ss) (any_second p q ss) h
  where
    second_case : (a b c d : Bool) → (c ≡ false → d ≡ false) → ((a || b) || c) ≡ false → (b || d) ≡ false
    second_case true b c d f h = absurd cc
    second_case false true c d f h = absurd cc
    second_case false false c d f h = f h

all_distinct : (known : Signature → Bool) (ss : List Signature) → are_distinct (first_new known ss) ≡ true
all_distinct known [] = refl
all_distinct known (s ∷ ss) =
    let new : List Signature = first_new (λ t. known t || same_signature t s) ss in
    new_case (known s) known s ss (all_distinct known ss)
    (any_second known (λ t. same_signature t s) new (none_known (λ t. known t || same_signature t s) ss))
    (all_distinct (λ t. known t || same_signature t s) ss)
  where
    new_case : (b : Bool) (known : Signature → Bool) (s : Signature) (ss : List Signature) → are_distinct (first_new known ss) ≡ true
        → list_any (λ t. same_signature t s) (first_new (λ t. known t || same_signature t s) ss) ≡ false
        → are_distinct (first_new (λ t. known t || same_signature t s) ss) ≡ true
        → are_distinct (cond b (first_new known ss) (s ∷ first_new (λ t. known t || same_signature t s) ss)) ≡ true
    new_case true known s ss p q r = p
    new_case false known s ss p q r = ap (λ b. not b && are_distinct (first_new (λ t. known t || same_signature t s) ss)) q ∙ r

pub implied_are_distinct : ImpliedAreDistinct
implied_are_distinct fields = all_distinct (is_among (eligible_signatures fields)) (needed_numbers fields)

-- look-ups among all types
known_typed : (n : ℕ) (fields : List ModuleField) (s : Signature)
    → is_some (index_of (bindings (type_names fields) (fields_with_types n fields)) s) ≡ (is_among (eligible_signatures fields) s || is_among
    (implied_signatures fields) s)
known_typed n fields s =
    let k : TypeNames = type_names fields in
    let named : List ModuleField = with_ids_from lacks_id with_type_id n fields in
    let m : ℕ = n + missing_id_count lacks_id fields in
    ap (λ bs. is_some (index_of bs s)) (flat_map-append (bindings_in k) named (implied_types m (implied_signatures fields)))
    ∙ (ap is_some (lookup-append (same_signature s) (bindings k named) (bindings k (implied_types m (implied_signatures fields))))
    ∙ (known_after (index_of (bindings k named)) k m (implied_signatures fields) (implied_are_numbered fields) s
    ∙ ap (λ b. b || is_among (implied_signatures fields) s) (eligible_known k n fields s)))

needed_implied : (n : ℕ) (ss : List Signature) → needed_signatures (implied_types n ss) ≡ []
needed_implied n [] = refl
needed_implied n (s ∷ ss) = needed_both (in_field (implied_type n s)) (in_module (implied_types (n + 1) ss))
    ∙ (ap (λ zs. zs ++ needed_signatures (implied_types (n + 1) ss)) (ty_none (made_type n s)) ∙ needed_implied (n + 1) ss)

needed_typed : (n : ℕ) (fields : List ModuleField) → needed_signatures (fields_with_types n fields) ≡ needed_signatures fields
needed_typed n fields =
    let named : List ModuleField = with_ids_from lacks_id with_type_id n fields in
    let new : List ModuleField = implied_types (n + missing_id_count lacks_id fields) (implied_signatures fields) in
    ap needed_in (flat_map-append in_field named new) ∙ (needed_both (in_module named) (in_module new)
    ∙ (ap (λ ss. ss ++ needed_signatures new) (needed_filled n fields)
    ∙ (ap (λ ss. needed_signatures fields ++ ss) (needed_implied (n + missing_id_count lacks_id fields) (implied_signatures fields))
    ∙ append-nil (needed_signatures fields))))

all_found : (n : ℕ) (fields : List ModuleField) → list_all (λ s. is_some (found_for fields n s)) (needed_signatures (fields_with_types n fields)) ≡ true
all_found n fields =
    ap (list_all (λ s. is_some (found_for fields n s))) (needed_typed n fields)
    ∙ (sym (list_all-map (λ s. is_some (index_of (bindings (type_names fields) (fields_with_types n fields)) s))
    (numbered_signature (type_names fields)) (needed_signatures fields))
    ∙ (ap (λ (f : Signature → Bool). list_all f (needed_numbers fields)) (fun_ext (known_typed n fields))
    ∙ known_or_new (is_among (eligible_signatures fields)) (needed_numbers fields)))

pub uses_are_bound : UsesAreBound
uses_are_bound n fields = fields_bound (found_for fields n) (fields_with_types n fields) (all_found n fields)
