-- Lemmas for the binary search of place_among: its invariant, its two steps and its end.
use Rattle.std.proofs.Common.{◌≡◌, ℕ, ◌+◌, ◌<◌, ◌≤◌, List, length, get_or, map, Bool, true, false, true≢false, sym, ◌∙◌, subst, arith, inl, inr}
use Rattle.std.specs.Cmp.{IsStrictWeakOrder}
use Rattle.std.proofs.lemmas.Bool.{cases_Bool}
use Rattle.std.proofs.lemmas.List.{get_or-map, length-map}
use Rattle.std.proofs.lemmas.List.Sorted.{ranks_by, sorted_far}
use Rattle.wast_base.specs.Ids.{Name}
use Rattle.wast_base.specs.Order.{key_of, name_lt, AreInOrder, IsPlaceOf}
use Rattle.wast_base.proofs.Keys.{keys_total}

pub names_ranked : IsStrictWeakOrder name_lt
names_ranked = ranks_by keys_total key_of

-- The position of the name is between low and high.
pub record IsHalved (names : List Name) (name : Name) (low high : ℕ) : Type 0 where
  pub order : low ≤ high
  pub within : high ≤ length names
  pub before : (j : ℕ) → j < low → name_lt (get_or names j name) name ≡ true
  pub behind : (j : ℕ) → high ≤ j → j < length names → name_lt (get_or names j name) name ≡ false

module _ (names : List Name) (name : Name) (sorted : AreInOrder names) where
  -- all names up to one that is less than the name are less
  pub raised : (mid : ℕ) → mid < length names → name_lt (get_or names mid name) name ≡ true → (j : ℕ) → j < mid + 1 → name_lt (get_or names j name) name ≡ true
  raised mid lt h j before = elim (cases_Bool (name_lt (get_or names j name) name)) [
    | inl e ↦ e
    | inr e ↦
        let far = sorted_far name_lt names_ranked names sorted j mid name (omega arith) lt in
        absurd (true≢false (sym h ∙ names_ranked.chain (get_or names mid name) (get_or names j name) name far e))
  ]

  -- no name from one on that is not less than the name is less
  pub lowered : (mid : ℕ) → name_lt (get_or names mid name) name ≡ false → (j : ℕ) → mid ≤ j → j < length names → name_lt (get_or names j name) name ≡ false
  lowered mid h j le lt =
      names_ranked.chain (get_or names j name) (get_or names mid name) name (sorted_far name_lt names_ranked names sorted mid j name le lt) h

-- once low and high meet, low is the position
pub ended : (names : List Name) (name : Name) (low high : ℕ) → high ≤ low → IsHalved names name low high → IsPlaceOf names name low
ended names name low high le h = record {
  within = omega (arith, h.order, h.within);
  before = h.before;
  behind = λ j from lt. h.behind j (omega (arith, le)) lt;
}

-- a comparison with an element of a slice is one with its name
pub tested_there : {X : Type 0} (called : X → Name) (xs : List X) (i : ℕ) (d : X) (name : Name) (b : Bool) → i < length xs
    → name_lt (called (get_or xs i d)) name ≡ b → name_lt (get_or (map called xs) i name) name ≡ b
tested_there called xs i d name b lt h = subst (λ (n : Name). name_lt n name ≡ b) (sym (get_or-map called xs i d name lt)) h

pub as_many : {X : Type 0} (called : X → Name) (xs : List X) → length (map called xs) ≡ length xs
as_many called xs = length-map xs called
