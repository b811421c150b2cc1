-- Lists and optional parts whose elements are changed in a way that a function keeps.
--
-- If what a function makes of a changed element is the changed element that it makes, then the two can change places in the whole list.
--
--   exports of the names "a" and "b", at any address      the exports, and then their names are set to address 0
use Rattle.std.proofs.Common.{◌≡◌, List, [], ◌∷◌, map, Option, Some, None, option_map, refl, ap}

pub map_changed : {A B : Type 0} (f : A → A) (h : B → B) (g : A → B) → ((x : A) → g (f x) ≡ h (g x)) → (xs : List A)
    → map g (map f xs) ≡ map h (map g xs)
map_changed f h g changed [] = refl
map_changed f h g changed (x ∷ xs) = λ i. changed x i ∷ map_changed f h g changed xs i

pub option_mapped : {A B : Type 0} (f : A → A) (h : B → B) (g : A → B) → ((x : A) → g (f x) ≡ h (g x)) → (o : Option A)
    → option_map g (option_map f o) ≡ option_map h (option_map g o)
option_mapped f h g changed None = refl
option_mapped f h g changed (Some x) = ap Some (changed x)
