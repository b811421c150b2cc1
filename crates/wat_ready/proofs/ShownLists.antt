-- Lists whose elements are changed in a way that a function does not see.
--
--   the ids of parameters, after their name annotations are at address 0      the same ids
use Rattle.std.specs.Prelude.{Option, Some, None, option_map}
use Rattle.std.specs.List.{flat_map}
use Rattle.std.proofs.Common.{◌≡◌, List, [], ◌∷◌, ◌++◌, map, refl, sym, ◌∙◌}
use Rattle.std.proofs.lemmas.List.{map-append}
use Rattle.wast_tree_nodes.specs.Sites.{if_there}

-- The values of a function at the elements.
pub map_same : {A B : Type 0} (f : A → A) (g : A → B) → ((x : A) → g (f x) ≡ g x) → (xs : List A)
    → map g (map f xs) ≡ map g xs
map_same f g same [] = refl
map_same f g same (x ∷ xs) = λ i. same x i ∷ map_same f g same xs i

-- The lists that a function has at the elements, one after the other.
pub flat_same : {A B : Type 0} (f : A → A) (g : A → List B) → ((x : A) → g (f x) ≡ g x) → (xs : List A)
    → flat_map g (map f xs) ≡ flat_map g xs
flat_same f g same [] = refl
flat_same f g same (x ∷ xs) = λ i. same x i ++ flat_same f g same xs i

-- The same, if the change is seen in the lists: each is the changed list.
pub flat_changed : {A B : Type 0} (f : A → A) (g : A → List B) (h : B → B) → ((x : A) → g (f x) ≡ map h (g x)) → (xs : List A)
    → flat_map g (map f xs) ≡ map h (flat_map g xs)
flat_changed f g h changed [] = refl
flat_changed f g h changed (x ∷ xs) = (λ i. changed x i ++ flat_changed f g h changed xs i) ∙ sym (map-append h (g x) (flat_map g xs))

-- An optional part.
pub option_same : {A B : Type 0} (f : A → A) (g : A → List B) → ((x : A) → g (f x) ≡ g x) → (o : Option A)
    → if_there g (option_map f o) ≡ if_there g o
option_same f g same None = refl
option_same f g same (Some x) = same x

pub option_changed : {A B : Type 0} (f : A → A) (g : A → List B) (h : B → B) → ((x : A) → g (f x) ≡ map h (g x)) → (o : Option A)
    → if_there g (option_map f o) ≡ map h (if_there g o)
option_changed f g h changed None = refl
option_changed f g h changed (Some x) = changed x

-- Two lists, one after the other.
pub both_changed : {A : Type 0} (h : A → A) (xs ys us vs : List A) → us ≡ map h xs → vs ≡ map h ys → us ++ vs ≡ map h (xs ++ ys)
both_changed h xs ys us vs a b = (λ i. a i ++ b i) ∙ sym (map-append h xs ys)
