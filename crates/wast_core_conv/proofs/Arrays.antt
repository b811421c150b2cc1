-- A list of a known length equals the list of its elements, taken one by one.
use Rattle.std.proofs.Common.{◌≡◌, ℕ, zero, suc, List, [], ◌∷◌, length, get_or, refl, ap, ◌∙◌, arith}

-- The elements from an index on, as many as this.
abbrev pub from_place : {A : Type 0} → A → ℕ → ℕ → List A → List A
from_place d at zero xs = []
from_place d at (suc n) xs = get_or xs at d ∷ from_place d (suc at) n xs

one_further : {A : Type 0} (d : A) (at n : ℕ) (x : A) (xs : List A) → from_place d (suc at) n (x ∷ xs) ≡ from_place d at n xs
one_further d at zero x xs = refl
one_further d at (suc n) x xs = ap (λ ys. get_or xs at d ∷ ys) (one_further d (suc at) n x xs)

pub by_places : {A : Type 0} (d : A) (n : ℕ) (xs : List A) → length xs ≡ n → from_place d 0 n xs ≡ xs
by_places d zero [] h = refl
by_places d zero (x ∷ xs) h = absurd (omega (arith, h))
by_places d (suc n) [] h = absurd (omega (arith, h))
by_places d (suc n) (x ∷ xs) h = ap (λ ys. x ∷ ys) (one_further d 0 n x xs ∙ by_places d n xs (omega (arith, h)))
