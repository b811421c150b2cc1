-- Names in a sorted list of pairs, and the result of a search by name.
--
--   names $a, $c       searching $c: Ok 1       searching $b: Err 1, the position to insert it
use Rattle.std.specs.Prelude.{◌≡◌, ℕ, ◌<◌, ◌≤◌, List, map, length, T, Result, Ok, Err, slice_index_or}
use Rattle.std.specs.declared.cmp.Ordering.TheVariants.{Less, Equal, Greater}
use Rattle.std.specs.FinMap.{is_sorted}
use Rattle.wast_base.specs.Ids.{name_of}
use Rattle.wast_base.specs.declared.ids.Id.{Id}
use Rattle.wast_base.specs.Order.{Key, key_of, key_cmp}

-- The name of a pair, as a key.
abbrev pub key_at : Id × ℕ → Key
key_at e = key_of (name_of e.0)

-- A pair with its name as a key.
abbrev pub entry_of : Id × ℕ → Key × ℕ
entry_of e = (key_at e, e.1)

-- Names with their numbers, without the positions of ids.
abbrev pub entries_of : List (Id × ℕ) → List (Key × ℕ)
entries_of es = map entry_of es

-- The names increase along the pairs, so each occurs once.
abbrev pub AreSorted : List (Id × ℕ) → Type 0
AreSorted es = T (is_sorted key_cmp (entries_of es))

-- The names before a position are smaller.
pub record IsAbove (es : List (Id × ℕ)) (key : Key) (at : ℕ) : Type 0 where
  pub smaller : (j : ℕ) (d : Id × ℕ) → j < at → key_cmp (key_at (slice_index_or es j d)) key ≡ Less

-- The names from a position on are greater.
pub record IsBelow (es : List (Id × ℕ)) (key : Key) (at : ℕ) : Type 0 where
  pub greater : (j : ℕ) (d : Id × ℕ) → at ≤ j → j < length es → key_cmp (key_at (slice_index_or es j d)) key ≡ Greater

-- The name is at a position.
pub record IsAt (es : List (Id × ℕ)) (key : Key) (at : ℕ) : Type 0 where
  pub in_range : at < length es
  pub above : IsAbove es key at
  pub same : (d : Id × ℕ) → key_cmp (key_at (slice_index_or es at d)) key ≡ Equal

-- The name does not occur, and a position is where to insert it.
pub record IsGap (es : List (Id × ℕ)) (key : Key) (at : ℕ) : Type 0 where
  pub in_range : at ≤ length es
  pub above : IsAbove es key at
  pub below : IsBelow es key at

-- The result of a search.
abbrev pub IsPlace : List (Id × ℕ) → Key → Result ℕ ℕ → Type 0
IsPlace es key (Ok at) = IsAt es key at
IsPlace es key (Err at) = IsGap es key at
