-- Namespaces that are built from all items of an index space at once (text format: identifiers, indices).
--
-- An id that two items share is a duplicate, and the first one is reported (E2). The first is the least position with
-- the name of an earlier item, because items are checked in order.
--
--   names $a, none, $b, $a, $b       first duplicate: position 3
--   names $a, none, $b               $a is 0, $b is 2
use Rattle.std.specs.Prelude.{◌≡◌, ℕ, zero, suc, ◌-◌, ◌<◌, ◌≤◌, true, cond, if◌then◌else◌, nat_lt, List, [], ◌∷◌, length, map, take, Option, Some, None, option_map, slice_index_or, Result, Ok, Err}
use Rattle.std.specs.declared.cmp.Ordering.{Ordering}
use Rattle.std.specs.Ordering.{nat_cmp, ordering_then, is_lt, is_eq}
use Rattle.std.specs.List.Sorted.{IsSortedBy, IsSortedWithin}
use Rattle.wast_base.specs.declared.ids.Id.{Id}
use Rattle.wast_base.specs.Ids.{Name, name_of, same_name}
use Rattle.wast_base.specs.Spaces.{position_of, is_borne}
use Rattle.wast_base.specs.Order.{Key, key_of, key_cmp}
use Rattle.wast_resolve_namespace.specs.Places.{entry_of}
use Rattle.wast_resolve_namespace.specs.Namespaces.{NameSpace, number_in}

-- The item at p has the name of an earlier one.
pub record IsClash (names : List (Option Name)) (p : ℕ) : Type 0 where
  pub name : Name
  pub within : p < length names
  pub bears : slice_index_or names p None ≡ Some name
  pub borne : is_borne name (take p names) ≡ true

-- The item at p is the first one with the name of an earlier one.
pub record IsFirstClash (names : List (Option Name)) (p : ℕ) : Type 0 where
  pub clash : IsClash names p
  pub least : (r : ℕ) → IsClash names r → p ≤ r

-- No two items have the same name, and each name has the position of its item.
pub record IsFilled (names : List (Option Name)) (s : NameSpace) : Type 0 where
  pub free : (p : ℕ) → IsClash names p → ⊥
  pub count : s.count ≡ length names
  pub number : (q : Name) → number_in s q ≡ position_of q names

-- The result of building: the namespace, or the position of the first duplicate.
abbrev pub FillsSpace : List (Option Name) → Result NameSpace ℕ → Type 0
FillsSpace names (Ok s) = IsFilled names s
FillsSpace names (Err p) = IsFirstClash names p

-- A list with n items without a name before it.
abbrev pub unnamed : ℕ → List (Option Name) → List (Option Name)
unnamed zero names = names
unnamed (suc n) names = None ∷ unnamed n names

-- The names of the items from a position on, if ids are given with their positions.
abbrev pub names_from : ℕ → List (Id × ℕ) → ℕ → List (Option Name)
names_from at [] count = unnamed (count - at) []
names_from at (e ∷ es) count = unnamed (e.1 - at) (Some (name_of e.0) ∷ names_from (suc e.1) es count)

-- The number of the first pair with a name.
abbrev pub first_number : Name → List (Id × ℕ) → Option ℕ
first_number name [] = None
first_number name (e ∷ es) = if same_name name (name_of e.0) then Some e.1 else first_number name es

-- The positions increase, start at a position, and are below the count.
abbrev pub ArePositions : ℕ → List (Id × ℕ) → ℕ → Type 0
ArePositions at [] count = at ≤ count
ArePositions at (e ∷ es) count = (at ≤ e.1) × ArePositions (suc e.1) es count

-- The keys of names.
abbrev pub keys_of : List (Option Name) → List (Option Key)
keys_of names = map (λ o. option_map key_of o) names

-- The values of a list that exist, with their positions, counted from n.
abbrev pub numbered_from : {K : Type 0} → ℕ → List (Option K) → List (K × ℕ)
numbered_from n [] = []
numbered_from n (None ∷ xs) = numbered_from (suc n) xs
numbered_from n (Some k ∷ xs) = (k, n) ∷ numbered_from (suc n) xs

-- The order by key, then by number.
abbrev pub pair_cmp : {K : Type 0} → (K → K → Ordering) → K × ℕ → K × ℕ → Ordering
pair_cmp R a b = ordering_then (R a.0 b.0) (nat_cmp a.1 b.1)

-- The pairs are sorted by name, then by number.
abbrev pub AreRanked : List (Id × ℕ) → Type 0
AreRanked es = IsSortedBy (λ a b. is_lt (pair_cmp key_cmp (entry_of a) (entry_of b))) es

-- The first n pairs are sorted by name, then by number.
abbrev pub AreRankedTo : List (Id × ℕ) → ℕ → Type 0
AreRankedTo es n = IsSortedWithin (λ a b. is_lt (pair_cmp key_cmp (entry_of a) (entry_of b))) es 0 n

-- Two neighbours have the same key, and p is the number of the second.
pub record IsTie {K : Type 0} (es : List (K × ℕ)) (p : ℕ) : Type 0 where
  pub at : ℕ
  pub within : suc at < length es
  pub same : (d : K × ℕ) → (slice_index_or es at d).0 ≡ (slice_index_or es (suc at) d).0
  pub number : (d : K × ℕ) → (slice_index_or es (suc at) d).1 ≡ p

-- The least number of such neighbours.
pub record IsLeastTie {K : Type 0} (es : List (K × ℕ)) (p : ℕ) : Type 0 where
  pub tie : IsTie es p
  pub least : (r : ℕ) → IsTie es r → p ≤ r

-- The least number of such neighbours, if there are any.
abbrev pub IsFirstTie : {K : Type 0} → List (K × ℕ) → Option ℕ → Type 0
IsFirstTie es None = (p : ℕ) → IsTie es p → ⊥
IsFirstTie es (Some p) = IsLeastTie es p

-- The lesser of two numbers, the first of which may be missing.
abbrev pub least_of : Option ℕ → ℕ → ℕ
least_of None p = p
least_of (Some q) p = cond (nat_lt q p) q p

-- The position of the first duplicate, if there is one.
abbrev pub HasFirstClash : List (Option Name) → Option ℕ → Type 0
HasFirstClash names None = (p : ℕ) → IsClash names p → ⊥
HasFirstClash names (Some p) = IsFirstClash names p

-- The namespace is built, or there is a duplicate.
abbrev pub IsTried : List (Option Name) → NameSpace → Option ℕ → Type 0
IsTried names s None = IsFilled names s
IsTried names s (Some p) = IsFirstClash names p

-- The pairs without those with the key of the one before them.
abbrev pub others_behind : {K : Type 0} → (K → K → Ordering) → K × ℕ → List (K × ℕ) → List (K × ℕ)
others_behind R last [] = []
others_behind R last (e ∷ es) = if is_eq (R last.0 e.0) then others_behind R e es else (e ∷ others_behind R e es)

-- The first pair of each key, if pairs of one key are neighbours.
abbrev pub first_of_each : {K : Type 0} → (K → K → Ordering) → List (K × ℕ) → List (K × ℕ)
first_of_each R [] = []
first_of_each R (e ∷ es) = e ∷ others_behind R e es

-- Each name has the position of the first item with it, even if several items have it.
abbrev pub Denotes : List (Option Name) → NameSpace → Type 0
Denotes names s = (q : Name) → number_in s q ≡ position_of q names
