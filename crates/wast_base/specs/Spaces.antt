-- Index spaces, and the index that a name refers to among the items of one (text format: identifiers, indices, modules).
--
-- The items of an index space are the list of their names, `None` for an item without an id. A name refers to the first
-- item that has it. If two have it, resolving fails with E2, so the choice of the first matters only before that check.
--
--   items: none, $a, $b, $a     $a is 1, $b is 2, $c is not defined
use Rattle.std.specs.Prelude.{ℕ, ◌==◌, ◌||◌, Bool, true, false, not, is_some, List, [], ◌∷◌, Option, Some, None, option_map, position, codes}
use Rattle.wast_base.specs.declared.ids.Index.{Index}
use Rattle.wast_base.specs.declared.ids.Index.TheVariants as index
use Rattle.wast_base.specs.declared.spaces.Space.{Space}
use Rattle.wast_base.specs.declared.spaces.Space.TheVariants as space
use Rattle.wast_base.specs.Ids.{Name, same_name, name_of, is_generated, Mark}

-- the word for an item of the space in messages
abbrev pub word_of : Space → List ℕ
word_of space.Func = codes "func"
word_of space.Table = codes "table"
word_of space.Memory = codes "memory"
word_of space.Global = codes "global"
word_of space.Tag = codes "tag"
word_of space.Elem = codes "elem"
word_of space.Data = codes "data"
word_of space.Ty = codes "type"

-- the position of a space among the eight
abbrev pub rank_of : Space → ℕ
rank_of space.Func = 0
rank_of space.Table = 1
rank_of space.Memory = 2
rank_of space.Global = 3
rank_of space.Tag = 4
rank_of space.Elem = 5
rank_of space.Data = 6
rank_of space.Ty = 7

-- whether two spaces are the same
abbrev pub same_space : Space → Space → Bool
same_space s t = rank_of s == rank_of t

-- the name of an optional id
abbrev pub name_if : Option Mark → Option Name
name_if mark = option_map (λ m. m.0) mark

-- whether an item has this name
abbrev pub is_called : Name → Option Name → Bool
is_called name None = false
is_called name (Some other) = same_name name other

-- the index that a name refers to: the first position that has the name
abbrev pub position_of : Name → List (Option Name) → Option ℕ
position_of name names = position (is_called name) names

-- whether any item has this name
abbrev pub is_borne : Name → List (Option Name) → Bool
is_borne name names = is_some (position_of name names)

-- all index spaces, in the order of their ranks
abbrev pub spaces : List Space
spaces = space.Func ∷ space.Table ∷ space.Memory ∷ space.Global ∷ space.Tag ∷ space.Elem ∷ space.Data ∷ space.Ty ∷ []

-- Whether an index that is a generated id names an item of the space. Numbers and source ids always qualify.
abbrev pub is_settled_index : (Name → Option ℕ) → Index → Bool
is_settled_index number (index.Num n span) = true
is_settled_index number (index.Id id) = not (is_generated (name_of id)) || is_some (number (name_of id))
