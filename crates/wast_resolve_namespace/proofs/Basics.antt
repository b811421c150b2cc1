-- Numbers compared, and elements of lists.
use Rattle.std.proofs.Common.{◌≡◌, ℕ, zero, suc, ◌<◌, ◌⊎◌, List, [], ◌∷◌, length, get_or, true, refl, sym, arith, inl, inr}
use Rattle.std.specs.declared.cmp.Ordering.{Ordering}
use Rattle.std.specs.declared.cmp.Ordering.TheVariants.{Less, Equal, Greater}
use Rattle.std.specs.Prelude.{nat_lt}
use Rattle.std.specs.Ordering.{nat_cmp, is_eq}
use Rattle.std.specs.Cmp.{nat_cmp_is}
use Rattle.std.proofs.lemmas.Bool.{cases_Bool, ltb-true, ltb-false}

pub less : (x y : ℕ) → x < y → nat_cmp x y ≡ Less
less x y h = sym (nat_cmp_is x y Less h)

pub is_equal : (o : Ordering) → is_eq o ≡ true → o ≡ Equal
is_equal Less h = cc
is_equal Equal h = refl
is_equal Greater h = cc

pub three_cases : (x y : ℕ) → (x < y) ⊎ ((x ≡ y) ⊎ (y < x))
three_cases x y = elim (cases_Bool (nat_lt x y)) [
  | inl e ↦ inl (ltb-true x y e)
  | inr e ↦ elim (cases_Bool (nat_lt y x)) [
    | inl f ↦ inr (inr (ltb-true y x f))
    | inr f ↦ inr (inl (let l = ltb-false x y e in let m = ltb-false y x f in omega arith))
  ]
]

module _ {X : Type 0} where
  -- An element of a list that is longer than n.
  pub some_element : (xs : List X) (n : ℕ) → n < length xs → X
  some_element [] n lt = absurd (omega arith)
  some_element (x ∷ xs) n lt = x

  -- If there is an element, the default does not matter.
  pub any_default : (xs : List X) (i : ℕ) (d e : X) → i < length xs → get_or xs i d ≡ get_or xs i e
  any_default [] i d e lt = absurd (omega arith)
  any_default (x ∷ xs) zero d e lt = refl
  any_default (x ∷ xs) (suc i) d e lt = any_default xs i d e (omega arith)
