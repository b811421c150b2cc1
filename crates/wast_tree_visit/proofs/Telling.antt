-- Lemmas: the state of a visitor after a list, for a maximum, a first result and a test.
use Rattle.std.proofs.Common.{◌≡◌, ℕ, Bool, true, false, ◌||◌, Option, Some, None, List, [], ◌∷◌, ◌++◌, flat_map, refl, sym, ap, ◌∙◌, arith}
use Rattle.std.specs.List.{list_any}
use Rattle.std.proofs.Math.Bool.{or-false}
use Rattle.std.specs.Prelude.{map, max}
use Rattle.wast_tree_nodes.specs.Generations.{max_of}
use Rattle.wast_tree_nodes.specs.Uncovered.{first_of}
use Rattle.wast_tree_visit.specs.Visits.{TellsEach, Visits}

greatest_each : {V A : Type 0} (of : V → ℕ) (g : A → ℕ) (a b : V) (xs : List A) → TellsEach (λ old x new. of new ≡ max (of old) (g x)) a xs b
    → of b ≡ max (of a) (max_of (map g xs))
greatest_each of g a b [] h = ap of h ∙ omega arith
greatest_each of g a b (x ∷ xs) h = let e = greatest_each of g h.0 b xs h.1.1 in let f = h.1.0 in omega arith

-- a visitor that keeps the greatest number
pub greatest_told : {V A : Type 0} (of : V → ℕ) (g : A → ℕ) {a b : V} {xs : List A} → Visits (λ old x new. of new ≡ max (of old) (g x)) a xs b
    → of b ≡ max (of a) (max_of (map g xs))
greatest_told of g {a} {b} {xs} h = greatest_each of g a b xs h.tells

pub first_behind : {F : Type 0} (o : Option F) (xs ys : List F) → first_of (first_of o xs) ys ≡ first_of o (xs ++ ys)
first_behind (Some f) xs ys = refl
first_behind None [] ys = refl
first_behind None (x ∷ xs) ys = refl

pub first_nothing : {F : Type 0} (o : Option F) → first_of o [] ≡ o
first_nothing (Some f) = refl
first_nothing None = refl

first_each : {V A F : Type 0} (of : V → Option F) (g : A → List F) (a b : V) (xs : List A)
    → TellsEach (λ old x new. of new ≡ first_of (of old) (g x)) a xs b → of b ≡ first_of (of a) (flat_map g xs)
first_each of g a b [] h = ap of h ∙ sym (first_nothing (of a))
first_each of g a b (x ∷ xs) h =
    first_each of g h.0 b xs h.1.1 ∙ (ap (λ o. first_of o (flat_map g xs)) h.1.0 ∙ first_behind (of a) (g x) (flat_map g xs))

-- a visitor that keeps the first result
pub first_told : {V A F : Type 0} (of : V → Option F) (g : A → List F) {a b : V} {xs : List A}
    → Visits (λ old x new. of new ≡ first_of (of old) (g x)) a xs b → of b ≡ first_of (of a) (flat_map g xs)
first_told of g {a} {b} {xs} h = first_each of g a b xs h.tells

any_behind : (a b c : Bool) → ((a || b) || c) ≡ (a || (b || c))
any_behind true b c = refl
any_behind false b c = refl

any_each : {V A : Type 0} (of : V → Bool) (p : A → Bool) (a b : V) (xs : List A) → TellsEach (λ old x new. of new ≡ (of old || p x)) a xs b
    → of b ≡ (of a || list_any p xs)
any_each of p a b [] h = ap of h ∙ sym (or-false (of a))
any_each of p a b (x ∷ xs) h =
    any_each of p h.0 b xs h.1.1 ∙ (ap (λ o. o || list_any p xs) h.1.0 ∙ any_behind (of a) (p x) (list_any p xs))

-- a visitor that keeps whether any element passes a test
pub any_told : {V A : Type 0} (of : V → Bool) (p : A → Bool) {a b : V} {xs : List A} → Visits (λ old x new. of new ≡ (of old || p x)) a xs b
    → of b ≡ (of a || list_any p xs)
any_told of p {a} {b} {xs} h = any_each of p a b xs h.tells

-- a visitor with two parts is one visitor for each part
module _ {V A : Type 0} (one other : V → A → V → Type 0) where
  first_of_each : (a b : V) (xs : List A) → TellsEach (λ old x new. one old x new × other old x new) a xs b → TellsEach one a xs b
  first_of_each a b [] h = h
  first_of_each a b (x ∷ xs) h = (h.0, (h.1.0.0, first_of_each h.0 b xs h.1.1))

  second_of_each : (a b : V) (xs : List A) → TellsEach (λ old x new. one old x new × other old x new) a xs b → TellsEach other a xs b
  second_of_each a b [] h = h
  second_of_each a b (x ∷ xs) h = (h.0, (h.1.0.1, second_of_each h.0 b xs h.1.1))

  pub told_first : {a b : V} {xs : List A} → Visits (λ old x new. one old x new × other old x new) a xs b → Visits one a xs b
  told_first {a} {b} {xs} h = record { tells = first_of_each a b xs h.tells }

  pub told_second : {a b : V} {xs : List A} → Visits (λ old x new. one old x new × other old x new) a xs b → Visits other a xs b
  told_second {a} {b} {xs} h = record { tells = second_of_each a b xs h.tells }
