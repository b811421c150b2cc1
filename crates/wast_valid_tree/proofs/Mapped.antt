-- Lists that are mapped, one element at a time.
use Rattle.std.proofs.Common.{◌≡◌, ℕ, zero, suc, ◌+◌, ◌<◌, ◌≤◌, List, [], ◌∷◌, ◌++◌, length, map, take, get_or, slice_get, Some, refl, ap, sym, ◌∙◌, arith}
use Rattle.std.proofs.lemmas.List.{length-map}

-- the element at a position
pub mapped_at : {A B : Type 0} (f : A → B) (xs : List A) (n : ℕ) (x : A) (y : B) → n < length xs → x ≡ get_or xs n x → y ≡ f x → y ≡ get_or (map f xs) n y
mapped_at f [] n x y lt h e = absurd (omega (arith, lt))
mapped_at f (z ∷ zs) zero x y lt h e = e ∙ ap f h
mapped_at f (z ∷ zs) (suc n) x y lt h e = mapped_at f zs n x y (omega (arith, lt)) h e

pub mapped_lt : {A B : Type 0} (f : A → B) (xs : List A) (n : ℕ) → n < length xs → n < length (map f xs)
mapped_lt f xs n lt = omega (arith, lt, length-map xs f)

pub mapped_le : {A B : Type 0} (f : A → B) (xs : List A) (n : ℕ) → length xs ≤ n → length (map f xs) ≤ n
mapped_le f xs n le = omega (arith, le, length-map xs f)

-- the elements before a position, and one more
pub taken : {A B : Type 0} (f : A → B) (xs : List A) (n : ℕ) (y : B) → slice_get (map f xs) n ≡ Some y → map f (take (n + 1) xs) ≡ map f (take n xs) ++ y ∷ []
taken f [] n y h = absurd (cc h)
taken f (z ∷ zs) zero y h = let e : f z ≡ y = cc h in ap (λ w. w ∷ []) e
taken f (z ∷ zs) (suc n) y h =
    let e : suc n + 1 ≡ suc (n + 1) = omega arith in
    ap (λ m. map f (take m (z ∷ zs))) e ∙ ap (λ ys. f z ∷ ys) (taken f zs n y h)

pub all_taken : {A B : Type 0} (f : A → B) (xs : List A) (n : ℕ) → length xs ≤ n → map f (take n xs) ≡ map f xs
all_taken f [] zero le = refl
all_taken f [] (suc n) le = refl
all_taken f (z ∷ zs) zero le = absurd (omega (arith, le))
all_taken f (z ∷ zs) (suc n) le = ap (λ ys. f z ∷ ys) (all_taken f zs n (omega (arith, le)))
