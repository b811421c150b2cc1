-- The first position in a list with a name.
use Rattle.std.proofs.Common.{◌≡◌, ℕ, zero, suc, ◌<◌, List, [], ◌∷◌, length, get_or, take, length-take, get_or-take, Option, Some, None}
use Rattle.std.proofs.Common.{is_some, option_map, Bool, true, false, true≢false, cond, refl, sym, ap, ◌∙◌, arith}
use Rattle.std.specs.List.{position}
use Rattle.std.proofs.lemmas.List.Quantifiers.{position-Some}
use Rattle.wast_base.specs.Ids.{Name}
use Rattle.wast_base.specs.Spaces.{is_called, position_of, is_borne}
use Rattle.wast_base.proofs.Names.{called_is, is_called_so}
use Rattle.wast_base.proofs.Positions.{position_head}

-- positions
fails : (b : Bool) (o : Option ℕ) → cond b (Some 0) (option_map suc o) ≡ None → b ≡ false
fails true o h = absurd (cc h)
fails false o h = refl

fails_later : (b : Bool) (o : Option ℕ) → cond b (Some 0) (option_map suc o) ≡ None → o ≡ None
fails_later true o h = absurd (cc h)
fails_later false None h = refl
fails_later false (Some n) h = absurd (cc h)

module _ {X : Type 0} (p : X → Bool) where
  position-None : (xs : List X) → position p xs ≡ None → (i : ℕ) (d : X) → i < length xs → p (get_or xs i d) ≡ false
  position-None [] h i d lt = absurd (omega arith)
  position-None (x ∷ xs) h zero d lt = fails (p x) (position p xs) (sym (position_head p (p x) x xs refl) ∙ h)
  position-None (x ∷ xs) h (suc i) d lt = position-None xs (fails_later (p x) (position p xs) (sym (position_head p (p x) x xs refl) ∙ h)) i d (omega arith)

-- A position with the name.
pub position_bears : (q : Name) (names : List (Option Name)) (i : ℕ) → position_of q names ≡ Some i → (i < length names) × (get_or names i None ≡ Some q)
position_bears q names i h = let x = position-Some (is_called q) names i None h in (x.0, called_is q (get_or names i None) x.1)

-- There is no such position.
pub no_position : (q : Name) (names : List (Option Name)) → position_of q names ≡ None → (i : ℕ) → i < length names → get_or names i None ≡ Some q → ⊥
no_position q names h i lt at = true≢false (sym (is_called_so q (get_or names i None) at) ∙ position-None (is_called q) names h i None lt)

-- A name that an earlier item has.
pub borne_at : (q : Name) (names : List (Option Name)) (n i : ℕ) → i < n → n < length names → get_or names i None ≡ Some q → is_borne q (take n names) ≡ true
borne_at q names n i before within at = by_position (position_of q (take n names)) refl
  where
    by_position : (r : Option ℕ) → position_of q (take n names) ≡ r → is_some (position_of q (take n names)) ≡ true
    by_position (Some j) e = ap is_some e
    by_position None e = absurd (no_position q (take n names) e i (omega (arith, before, within, length-take n names)) (get_or-take n names i None before ∙ at))

some_position : (o : Option ℕ) → is_some o ≡ true → (i : ℕ) × (o ≡ Some i)
some_position None h = absurd (cc h)
some_position (Some i) h = (i, refl)

pub earlier_bearer : (q : Name) (names : List (Option Name)) (n : ℕ) → n < length names → is_borne q (take n names) ≡ true
    → (i : ℕ) × (i < n) × (get_or names i None ≡ Some q)
earlier_bearer q names n within h =
    let x = some_position (position_of q (take n names)) h in
    let y = position_bears q (take n names) x.0 x.1 in
    let before : x.0 < n = omega (arith, y.0, length-take n names) in
    (x.0, before, sym (get_or-take n names x.0 None before) ∙ y.1)
