-- The number that an index refers to, and the index after its id is replaced by the number (text format: indices).
--
-- Both are functions of a lookup from names to numbers, because a namespace and the enclosing blocks resolve alike.
--
--   `$f` at offset 8, and `$f` is number 2     number 2; the new index is 2 at offset 8
--   5 at offset 8                              number 5; the index is unchanged
use Rattle.std.specs.Prelude.{ℕ, Option, Some, None}
use Rattle.wast_base.specs.declared.ids.Id.{Id}
use Rattle.wast_base.specs.declared.ids.Index.{Index}
use Rattle.wast_base.specs.declared.ids.Index.TheVariants as index
use Rattle.wast_base.specs.Ids.{Name, name_of, place_of}

-- the number that an index refers to; a number refers to itself
abbrev pub denoted : (Name → Option ℕ) → Index → Option ℕ
denoted number (index.Num n span) = Some n
denoted number (index.Id id) = number (name_of id)

-- the number of an id, with the position of the id; the id itself if it has no number
abbrev pub numbered_by : Option ℕ → Id → Index
numbered_by None id = index.Id id
numbered_by (Some n) id = index.Num n (place_of id)

-- the index after resolving; a number is unchanged
abbrev pub resolved_index : (Name → Option ℕ) → Index → Index
resolved_index number (index.Num n span) = index.Num n span
resolved_index number (index.Id id) = numbered_by (number (name_of id)) id
