-- Lemmas about a test of each element of a list, and one element.
use Rattle.std.proofs.Common.{◌≡◌, ℕ, ◌+◌, ◌<◌, ◌||◌, Bool, true, false, cond, true≢false, Option, Some, List, [], ◌∷◌, length, get_or}
use Rattle.std.proofs.Common.{refl, sym, ◌∙◌, inl, inr}
use Rattle.std.specs.Prelude.{is_some}
use Rattle.std.specs.List.{list_all, list_any, position_from}
use Rattle.std.proofs.lemmas.Bool.{cases_Bool}
use Rattle.std.proofs.lemmas.List.Folds.{list_all_at}

-- if each element passes, the element at an index does
pub item_passes : {A : Type 0} (p : A → Bool) (xs : List A) (i : ℕ) (d : A) → i < length xs → list_all p xs ≡ true → p (get_or xs i d) ≡ true
item_passes p xs i d lt h = elim (cases_Bool (p (get_or xs i d))) [
  | inl e ↦ e
  | inr e ↦ absurd (true≢false (sym h ∙ list_all_at p xs i d lt e))
]

-- a position is found exactly if an element passes
pub found_from : {A : Type 0} (p : A → Bool) (i : ℕ) (xs : List A) → is_some (position_from p i xs) ≡ list_any p xs
found_from p i [] = refl
found_from p i (x ∷ xs) = by_test (p x) (position_from p (i + 1) xs) (list_any p xs) (found_from p (i + 1) xs)
  where
    by_test : (b : Bool) (o : Option ℕ) (c : Bool) → is_some o ≡ c → is_some (cond b (Some i) o) ≡ b || c
    by_test true o c e = refl
    by_test false o c e = e
