-- Lemmas about a test that each item of a list passes.
use Rattle.std.proofs.Common.{◌≡◌, Bool, true, false, ◌&&◌, List, [], ◌∷◌, ◌++◌, map, refl, sym, ap, ◌∙◌}
use Rattle.std.specs.Prelude.{All}
use Rattle.std.specs.List.{list_all, flat_map}
use Rattle.std.proofs.lemmas.List.Elements.{All-nil, All-cons}
use Rattle.std.proofs.lemmas.List.Folds.{list_all-append}

pub both_pass : (a b : Bool) → (a && b) ≡ true → (a ≡ true) × (b ≡ true)
both_pass true b h = (refl, h)
both_pass false b h = cc

pub both_true : (a b : Bool) → a ≡ true → b ≡ true → (a && b) ≡ true
both_true a b p q = ap (λ x. x && b) p ∙ q

-- Each part passes if everything in the parts does.
pub each_passes : {A B : Type 0} (p : B → Bool) (f : A → List B) (xs : List A) → list_all p (flat_map f xs) ≡ list_all (λ x. list_all p (f x)) xs
each_passes p f [] = refl
each_passes p f (x ∷ xs) = list_all-append p (f x) (flat_map f xs) ∙ ap (λ b. list_all p (f x) && b) (each_passes p f xs)

pub all_pass : {A : Type 0} (p : A → Bool) (xs : List A) → ((x : A) → p x ≡ true) → list_all p xs ≡ true
all_pass p [] h = refl
all_pass p (x ∷ xs) h = ap (λ b. b && list_all p xs) (h x) ∙ all_pass p xs h

-- The same if each part has one item.
pub each_of_one : {A B : Type 0} (p : B → Bool) (f : A → B) (xs : List A) → list_all p (flat_map (λ x. f x ∷ []) xs) ≡ list_all (λ x. p (f x)) xs
each_of_one p f [] = refl
each_of_one p f (x ∷ xs) = ap (λ b. p (f x) && b) (each_of_one p f xs)

-- Two tests with the same result on each item.
pub each_same : {A : Type 0} (p q : A → Bool) → ((x : A) → p x ≡ q x) → (xs : List A) → list_all p xs ≡ list_all q xs
each_same p q h [] = refl
each_same p q h (x ∷ xs) = ap (λ b. b && list_all p xs) (h x) ∙ ap (λ b. q x && b) (each_same p q h xs)

-- Both of two joined lists pass.
pub both_lists : {A : Type 0} (p : A → Bool) (xs ys : List A) → list_all p (xs ++ ys) ≡ true → (list_all p xs ≡ true) × (list_all p ys ≡ true)
both_lists p xs ys h = both_pass (list_all p xs) (list_all p ys) (sym (list_all-append p xs ys) ∙ h)

-- If two tests on each item imply a third, the list passes the third.
pub each_by : {A : Type 0} (p q r : A → Bool) → ((x : A) → p x ≡ true → q x ≡ true → r x ≡ true)
    → (xs : List A) → list_all p xs ≡ true → list_all q xs ≡ true → list_all r xs ≡ true
each_by p q r h [] a b = refl
each_by p q r h (x ∷ xs) a b =
    let c = both_pass (p x) (list_all p xs) a in
    let d = both_pass (q x) (list_all q xs) b in
    both_true (r x) (list_all r xs) (h x c.0 d.0) (each_by p q r h xs c.1 d.1)

pub each_then : {A : Type 0} (p r : A → Bool) → ((x : A) → p x ≡ true → r x ≡ true) → (xs : List A) → list_all p xs ≡ true → list_all r xs ≡ true
each_then p r h xs a = each_by p p r (λ x e f. h x e) xs a a

pub each_has : {A : Type 0} (p : A → Bool) (P : A → Type 0) → ((x : A) → p x ≡ true → P x) → (xs : List A) → list_all p xs ≡ true → All P xs
each_has p P h [] e = All-nil P
each_has p P h (x ∷ xs) e = let c = both_pass (p x) (list_all p xs) e in All-cons P x xs (h x c.0) (each_has p P h xs c.1)

-- The list of what the items become passes.
pub each_becomes : {A B : Type 0} (p : A → Bool) (f : A → B) (q : B → Bool) → ((x : A) → p x ≡ true → q (f x) ≡ true)
    → (xs : List A) → list_all p xs ≡ true → list_all q (map f xs) ≡ true
each_becomes p f q h [] e = refl
each_becomes p f q h (x ∷ xs) e =
    let c = both_pass (p x) (list_all p xs) e in
    both_true (q (f x)) (list_all q (map f xs)) (h x c.0) (each_becomes p f q h xs c.1)
