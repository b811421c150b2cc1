-- A property of each value type in the signatures that type uses need holds for those of the appended types.
use Rattle.std.proofs.Common.{◌≡◌, Bool, true, false, cond, ◌||◌, ◌&&◌, List, [], ◌∷◌, map, refl, ap, ◌∙◌}
use Rattle.std.specs.Cmp.{first_so, second_so}
use Rattle.std.specs.List.{flat_map, list_all}
use Rattle.std.proofs.lemmas.List.Folds.{list_all-append, list_all-map}
use Rattle.wast_expand_keys.specs.Signatures.{Signature, same_signature}
use Rattle.wast_expand_keys.specs.NeedingUses.{needed_signatures}
use Rattle.wast_expand_keys.specs.Numbers.{TypeNames, type_names, numbered_val, numbered_signature}
use Rattle.wast_expand_keys.specs.ImpliedTypes.{eligible_signatures, needed_numbers, is_among, first_new, implied_signatures}
use Rattle.wast_resolve_laws.specs.Tree.{ValType, ModuleField}

pub both_so : (a b : Bool) → a ≡ true → b ≡ true → (a && b) ≡ true
both_so a b h k = ap (λ c. c && b) h ∙ k

-- each element passes one test, and so another
pub all_pass : {A : Type 0} (p q : A → Bool) → ((x : A) → p x ≡ true → q x ≡ true) → (xs : List A) → list_all p xs ≡ true → list_all q xs ≡ true
all_pass p q one [] h = refl
all_pass p q one (x ∷ xs) h = both_so (q x) (list_all q xs) (one x (first_so (p x) (list_all p xs) h)) (all_pass p q one xs (second_so (p x) (list_all p xs) h))

-- the parts of each
pub all_parts : {A B : Type 0} (p : B → Bool) (f : A → List B) (xs : List A) → list_all p (flat_map f xs) ≡ list_all (λ x. list_all p (f x)) xs
all_parts p f [] = refl
all_parts p f (x ∷ xs) = list_all-append p (f x) (flat_map f xs) ∙ ap (λ b. list_all p (f x) && b) (all_parts p f xs)

all_new : (p known : Signature → Bool) (ss : List Signature) → list_all p ss ≡ true → list_all p (first_new known ss) ≡ true
all_new p known [] h = refl
all_new p known (s ∷ ss) h =
    let rest = second_so (p s) (list_all p ss) h in
    by_known (known s) (all_new p known ss rest) (both_so (p s) _ (first_so (p s) (list_all p ss) h) (all_new p (λ t. known t || same_signature t s) ss rest))
  where
    by_known : (b : Bool) → list_all p (first_new known ss) ≡ true → list_all p (s ∷ first_new (λ t. known t || same_signature t s) ss) ≡ true
        → list_all p (cond b (first_new known ss) (s ∷ first_new (λ t. known t || same_signature t s) ss)) ≡ true
    by_known true old new = old
    by_known false old new = new

-- each value type of a signature passes
abbrev pub values_pass : (ValType → Bool) → Signature → Bool
values_pass p s = list_all p s.0 && list_all p s.1

-- the same after ids are replaced by numbers, if what passes does so as a number
all_numbered : (p : ValType → Bool) (k : TypeNames) → ((v : ValType) → p v ≡ true → p (numbered_val k v) ≡ true) → (ss : List Signature)
    → list_all (values_pass p) ss ≡ true → list_all (values_pass p) (map (numbered_signature k) ss) ≡ true
all_numbered p k one ss h = list_all-map (values_pass p) (numbered_signature k) ss
    ∙ all_pass (values_pass p) (λ s. values_pass p (numbered_signature k s)) each ss h
  where
    each : (s : Signature) → values_pass p s ≡ true → values_pass p (numbered_signature k s) ≡ true
    each s h =
        both_so (list_all p (map (numbered_val k) s.0)) (list_all p (map (numbered_val k) s.1))
        (list_all-map p (numbered_val k) s.0 ∙ all_pass p (λ v. p (numbered_val k v)) one s.0 (first_so (list_all p s.0) (list_all p s.1) h))
        (list_all-map p (numbered_val k) s.1 ∙ all_pass p (λ v. p (numbered_val k v)) one s.1 (second_so (list_all p s.0) (list_all p s.1) h))

pub all_implied : (p : ValType → Bool) (fields : List ModuleField) → ((v : ValType) → p v ≡ true → p (numbered_val (type_names fields) v) ≡ true)
    → list_all (values_pass p) (needed_signatures fields) ≡ true → list_all (values_pass p) (implied_signatures fields) ≡ true
all_implied p fields one h = all_new (values_pass p) (is_among (eligible_signatures fields)) (needed_numbers fields)
    (all_numbered p (type_names fields) one (needed_signatures fields) h)
