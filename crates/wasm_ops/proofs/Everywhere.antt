-- What holds of each element of a list.
use Rattle.std.proofs.Common.{◌≡◌, ◌&&◌, Bool, true, false, List, [], ◌∷◌, ◌++◌, map, refl, sym, ap, ◌∙◌, subst, append-nil}
use Rattle.std.specs.Prelude.{All, IsTrue}
use Rattle.std.specs.List.{flat_map, list_all}
use Rattle.std.proofs.lemmas.Grind.{flat_map-append}
use Rattle.std.proofs.lemmas.List.Concat.{flat_map-cons}
use Rattle.std.proofs.lemmas.List.Elements.{All-nil, All-cons, All-head, All-tail, All-append}

pub all_left : {A : Type 0} (P : A → Type 0) (xs ys : List A) → All P (xs ++ ys) → All P xs
all_left P [] ys h = All-nil P
all_left P (x ∷ xs) ys h = All-cons P x xs (All-head P x (xs ++ ys) h) (all_left P xs ys (All-tail P x (xs ++ ys) h))

pub all_right : {A : Type 0} (P : A → Type 0) (xs ys : List A) → All P (xs ++ ys) → All P ys
all_right P [] ys h = h
all_right P (x ∷ xs) ys h = all_right P xs ys (All-tail P x (xs ++ ys) h)

pub all_unmap : {A B : Type 0} (P : B → Type 0) (f : A → B) (xs : List A) → All P (map f xs) → All (λ x. P (f x)) xs
all_unmap P f [] h = All-nil (λ x. P (f x))
all_unmap P f (x ∷ xs) h = All-cons (λ y. P (f y)) x xs (All-head P (f x) (map f xs) h) (all_unmap P f xs (All-tail P (f x) (map f xs) h))

pub all_map : {A B : Type 0} (P : B → Type 0) (f : A → B) (xs : List A) → All (λ x. P (f x)) xs → All P (map f xs)
all_map P f [] h = All-nil P
all_map P f (x ∷ xs) h = All-cons P (f x) (map f xs) (All-head (λ y. P (f y)) x xs h) (all_map P f xs (All-tail (λ y. P (f y)) x xs h))

-- of one and the other
pub all_both : {A : Type 0} (P Q R : A → Type 0) → ((x : A) → P x → Q x → R x) → (xs : List A) → All P xs → All Q xs → All R xs
all_both P Q R both [] p q = All-nil R
all_both P Q R both (x ∷ xs) p q = All-cons R x xs (both x (All-head P x xs p) (All-head Q x xs q))
    (all_both P Q R both xs (All-tail P x xs p) (All-tail Q x xs q))

pub both_true : (a b : Bool) → (a && b) ≡ true → (a ≡ true) × (b ≡ true)
both_true true true e = (refl, refl)
both_true true false e = absurd cc
both_true false b e = absurd cc

-- what is tested of each
pub all_tested : {A : Type 0} (p : A → Bool) (xs : List A) → list_all p xs ≡ true → All (λ x. IsTrue (p x)) xs
all_tested p [] e = All-nil (λ x. IsTrue (p x))
all_tested p (x ∷ xs) e = let both = both_true (p x) (list_all p xs) e in All-cons (λ y. IsTrue (p y)) x xs both.0 (all_tested p xs both.1)

-- lists of lists, one after another
pub flat_in_flat : {A B C : Type 0} (g : B → List C) (f : A → List B) (xs : List A) → flat_map (λ x. flat_map g (f x)) xs ≡ flat_map g (flat_map f xs)
flat_in_flat g f [] = refl
flat_in_flat g f (x ∷ xs) =
    flat_map-cons (λ y. flat_map g (f y)) x xs ∙ ap (λ l. flat_map g (f x) ++ l) (flat_in_flat g f xs)
    ∙ sym (flat_map-append g (f x) (flat_map f xs)) ∙ ap (flat_map g) (sym (flat_map-cons f x xs))

pub all_in_flat : {A B : Type 0} (P : B → Type 0) (f : A → List B) (xs : List A) → All (λ x. All P (f x)) xs → All P (flat_map f xs)
all_in_flat P f [] h = All-nil P
all_in_flat P f (x ∷ xs) h = subst (All P) (sym (flat_map-cons f x xs)) (All-append P (f x) (flat_map f xs) (All-head (λ y. All P (f y)) x xs h)
    (all_in_flat P f xs (All-tail (λ y. All P (f y)) x xs h)))

pub all_of_flat : {A B : Type 0} (P : B → Type 0) (f : A → List B) (xs : List A) → All P (flat_map f xs) → All (λ x. All P (f x)) xs
all_of_flat P f [] h = All-nil (λ x. All P (f x))
all_of_flat P f (x ∷ xs) h =
    let both = subst (All P) (flat_map-cons f x xs) h in
    All-cons (λ y. All P (f y)) x xs (all_left P (f x) (flat_map f xs) both) (all_of_flat P f xs (all_right P (f x) (flat_map f xs) both))

pub all_each : {A : Type 0} (P : A → Type 0) → ((x : A) → P x) → (xs : List A) → All P xs
all_each P h [] = All-nil P
all_each P h (x ∷ xs) = All-cons P x xs (h x) (all_each P h xs)

-- a list of one
pub all_one : {A : Type 0} (P : A → Type 0) (x : A) → P x → All P (x ∷ [])
all_one P x h = All-cons P x [] h (All-nil P)

pub flat_one : {A B : Type 0} (f : A → List B) (x : A) → flat_map f (x ∷ []) ≡ f x
flat_one f x = flat_map-cons f x [] ∙ append-nil (f x)
