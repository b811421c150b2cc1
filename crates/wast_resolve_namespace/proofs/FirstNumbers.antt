-- The number of the first pair with a name is the position of the first item with it.
use Rattle.std.proofs.Common.{◌≡◌, ℕ, zero, suc, ◌+◌, ◌-◌, List, [], ◌∷◌, Bool, true, false, cond, Option, Some, None, option_map, refl, ap, ◌∙◌, arith}
use Rattle.wast_base.specs.declared.ids.Id.{Id}
use Rattle.wast_base.specs.Ids.{Name, same_name, name_of}
use Rattle.wast_base.specs.Spaces.{is_called, position_of}
use Rattle.wast_base.proofs.Positions.{position_head}
use Rattle.wast_resolve_namespace.specs.Filling.{unnamed, names_from, ArePositions, first_number}

-- positions that are counted from n on
abbrev from : ℕ → Option ℕ → Option ℕ
from n None = None
from n (Some p) = Some (n + p)

from_zero : (o : Option ℕ) → o ≡ from 0 o
from_zero None = refl
from_zero (Some p) = ap (λ (m : ℕ). Some m) (omega arith)

one_more : (n : ℕ) (o : Option ℕ) → from n (option_map suc o) ≡ from (suc n) o
one_more n None = refl
one_more n (Some p) = ap (λ (m : ℕ). Some m) (omega arith)

module _ (q : Name) where
  behind_one : (n : ℕ) (xs : List (Option Name)) → from n (position_of q (None ∷ xs)) ≡ from (suc n) (position_of q xs)
  behind_one n xs = ap (from n) (position_head (is_called q) false None xs refl) ∙ one_more n (position_of q xs)

  behind_unnamed : (m n : ℕ) (xs : List (Option Name)) → from n (position_of q (unnamed m xs)) ≡ from (m + n) (position_of q xs)
  behind_unnamed zero n xs = ap (λ (k : ℕ). from k (position_of q xs)) (omega arith)
  behind_unnamed (suc m) n xs = behind_one n (unnamed m xs) ∙ (behind_unnamed m (suc n) xs ∙ ap (λ (k : ℕ). from k (position_of q xs)) (omega arith))

  head_case : (b : Bool) (n : ℕ) (o p : Option ℕ) → from (suc n) o ≡ p → from n (cond b (Some 0) (option_map suc o)) ≡ cond b (Some n) p
  head_case true n o p h = ap (λ (m : ℕ). Some m) (omega arith)
  head_case false n o p h = one_more n o ∙ h

  found_from : (at : ℕ) (es : List (Id × ℕ)) (count : ℕ) → ArePositions at es count → from at (position_of q (names_from at es count)) ≡ first_number q es
  found_from at [] count h = behind_unnamed (count - at) at []
  found_from at (e ∷ es) count h =
      let rest = names_from (suc e.1) es count in
      let here : (e.1 - at) + at ≡ e.1 = omega (arith, h.0) in
      behind_unnamed (e.1 - at) at (Some (name_of e.0) ∷ rest)
      ∙ (ap (λ (n : ℕ). from n (position_of q (Some (name_of e.0) ∷ rest))) here
      ∙ (ap (from e.1) (position_head (is_called q) (same_name q (name_of e.0)) (Some (name_of e.0)) rest refl)
      ∙ head_case (same_name q (name_of e.0)) e.1 (position_of q rest) (first_number q es) (found_from (suc e.1) es count h.1)))

  pub first_bearer : (es : List (Id × ℕ)) (count : ℕ) → ArePositions 0 es count → position_of q (names_from 0 es count) ≡ first_number q es
  first_bearer es count h = from_zero (position_of q (names_from 0 es count)) ∙ found_from 0 es count h
