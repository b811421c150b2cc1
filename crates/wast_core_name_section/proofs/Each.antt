-- Lists of results, one element at a time.
use Rattle.std.proofs.Common.{◌≡◌, ℕ, ◌+◌, ◌<◌, true, false, nat_lt, List, [], ◌∷◌, ◌++◌, length, map, refl, sym, ap, ◌∙◌, arith}
use Rattle.std.proofs.Common.{append-nil, length-append, take, drop, get_or, take-append-drop}
use Rattle.std.specs.List.{flat_map}
use Rattle.std.proofs.lemmas.Grind.{flat_map-append}
use Rattle.std.proofs.lemmas.Bool.{lt-ltb, ltb-true, ltb-false}
use Rattle.std.proofs.lemmas.List.{take_more, get_or_default}

-- The results of one more element, and those of the elements after it.
pub each_more : {A B : Type 0} (f : A → List B) (xs : List A) (i : ℕ) (d : A) (given : List B) → i < length xs → d ≡ get_or xs i d → given ≡ f d
    → flat_map f (take (i + 1) xs) ≡ flat_map f (take i xs) ++ given
each_more f xs i d given lt item gives =
    ap (flat_map f) (take_more xs i d lt) ∙ (flat_map-append f (take i xs) (get_or xs i d ∷ [])
    ∙ ap (λ z. flat_map f (take i xs) ++ z) (append-nil (f (get_or xs i d)) ∙ (ap f (sym item) ∙ sym gives)))

pub each_around : {A B : Type 0} (f : A → List B) (xs : List A) (i : ℕ) (d : A) (given : List B) → i < length xs → d ≡ get_or xs i d → given ≡ f d
    → flat_map f xs ≡ (flat_map f (take i xs) ++ given) ++ flat_map f (drop (i + 1) xs)
each_around f xs i d given lt item gives =
    ap (flat_map f) (sym (take-append-drop (i + 1) xs))
    ∙ (flat_map-append f (take (i + 1) xs) (drop (i + 1) xs) ∙ ap (λ z. z ++ flat_map f (drop (i + 1) xs)) (each_more f xs i d given lt item gives))

-- The list of results is not empty if one element has some, and empty if no element has any.
pub some_of_each : {A B : Type 0} (f : A → List B) (xs : List A) (i : ℕ) (d : A) → i < length xs → nat_lt 0 (length (f (get_or xs i d))) ≡ true
    → true ≡ nat_lt 0 (length (flat_map f xs))
some_of_each f xs i d lt some =
    let x = get_or xs i d in
    let before = flat_map f (take i xs) in
    let behind = flat_map f (drop (i + 1) xs) in
    sym (lt-ltb 0 (length (flat_map f xs)) (omega (
      arith,
      ltb-true 0 (length (f x)) some,
      ap length (each_around f xs i x (f x) lt (get_or_default xs i d x lt) refl),
      length-append (before ++ f x) behind,
      length-append before (f x),
    )))

pub none_of_each : {A B : Type 0} (f : A → List B) (xs : List A) (i : ℕ) (d : A) → i < length xs → flat_map f (take i xs) ≡ []
    → nat_lt 0 (length (f (get_or xs i d))) ≡ false → flat_map f (take (i + 1) xs) ≡ []
none_of_each {B = B} f xs i d lt before none =
    let x = get_or xs i d in
    each_more f xs i x (f x) lt (get_or_default xs i d x lt) refl ∙ (ap (λ z. z ++ f x) before ∙ empty (f x) none)
  where
    empty : (ys : List B) → nat_lt 0 (length ys) ≡ false → ys ≡ []
    empty [] h = refl
    empty (y ∷ ys) h = absurd (omega (arith, ltb-false 0 (length (y ∷ ys)) h))

-- The results of changed elements, if each has the same results as before.
pub each_like : {A B C : Type 0} (f : A → B) (g : B → List C) (h : A → List C) → ((x : A) → g (f x) ≡ h x) → (xs : List A)
    → flat_map g (map f xs) ≡ flat_map h xs
each_like f g h same [] = refl
each_like f g h same (x ∷ xs) = ap (λ ys. ys ++ flat_map g (map f xs)) (same x) ∙ ap (λ ys. h x ++ ys) (each_like f g h same xs)
