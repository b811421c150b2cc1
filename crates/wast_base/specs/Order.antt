-- The order of names, and the position of a name in a sorted list (text format: identifiers).
--
-- Names are sorted so that a namespace can use binary search. The order itself has no meaning in the format.
--
--   $a, $aa, $b, $gensym, generated id 1, generated id 2, generated id 10, $h     sorted
--   $b in $a, $b, $b, $d                                                          position 1
--   $c in the same                                                                position 3
--
-- Worked computes some of these.
use Rattle.std.specs.Prelude.{◌≡◌, ℕ, ◌<◌, ◌≤◌, Bool, true, false, List, length, slice_index_or, Option, Some, None}
use Rattle.std.specs.declared.cmp.Ordering.{Ordering}
use Rattle.std.specs.Ordering.{nat_cmp, ordering_then, is_lt}
use Rattle.std.specs.Option.{option_cmp}
use Rattle.std.specs.Cmp.Lexicographic.{slice_cmp}
use Rattle.std.specs.List.Sorted.{IsSortedBy}
use Rattle.wast_base.specs.Ids.{Name, Written, Generated, text_of}

-- the sort key of a name: its text, and its generation if it is generated
abbrev pub Key : Type 0
Key = List ℕ × Option ℕ

-- the generation of a name, if it is generated
abbrev pub generation_if : Name → Option ℕ
generation_if (Written text) = None
generation_if (Generated n) = Some n

-- the sort key of a name
abbrev pub key_of : Name → Key
key_of name = (text_of name, generation_if name)

-- compares the bytes of the texts, then source names before generated ones, then generations
abbrev pub key_cmp : Key → Key → Ordering
key_cmp a b = ordering_then (slice_cmp nat_cmp a.0 b.0) (option_cmp nat_cmp a.1 b.1)

-- whether a name is less than another
abbrev pub name_lt : Name → Name → Bool
name_lt a b = is_lt (key_cmp (key_of a) (key_of b))

-- The list is sorted. Equal names are allowed.
abbrev pub AreInOrder : List Name → Type 0
AreInOrder names = IsSortedBy name_lt names

-- The names before the position are less than this name, and those from there on are not.
pub record IsPlaceOf (names : List Name) (name : Name) (at : ℕ) : Type 0 where
  pub within : at ≤ length names
  pub before : (j : ℕ) → j < at → name_lt (slice_index_or names j name) name ≡ true
  pub behind : (j : ℕ) → at ≤ j → j < length names → name_lt (slice_index_or names j name) name ≡ false
