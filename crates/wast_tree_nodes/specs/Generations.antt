-- The greatest generation of the ids of a module, or 0 if no id is generated.
--
-- Resolving requires an id counter above it, because a new id must differ from all ids in the module. Ids of items and ids
-- that are used both count.
--
--   (func $f) (export "a" (func ID))      4 if ID is the generated id 4, and 0 if it is $f
use Rattle.std.specs.Prelude.{ℕ, max, List, [], ◌∷◌, map, Option, Some, None}
use Rattle.wast_tree_nodes.specs.Tree.{Index, ModuleField}
use Rattle.wast_tree_nodes.specs.Tree.index
use Rattle.wast_base.specs.Ids.{Mark, name_of, generation_of}
use Rattle.wast_tree_nodes.specs.Items.{Item, items}
use Rattle.wast_tree_nodes.specs.Sites.{Check, ItemIndex, InnerIndex, PlainId, Clause, Covered, checks_of, in_module}

-- the greatest of some numbers, or 0 if there are none
abbrev pub max_of : List ℕ → ℕ
max_of [] = 0
max_of (n ∷ ns) = max n (max_of ns)

-- the generation of an optional id, or 0 if there is none
abbrev pub generation_or_zero : Option Mark → ℕ
generation_or_zero None = 0
generation_or_zero (Some m) = generation_of m.0

-- the generation of an index that is a generated id, or 0 for others
abbrev pub generation_at : Index → ℕ
generation_at (index.Num n span) = 0
generation_at (index.Id id) = generation_of (name_of id)

-- the generation of the id of a check
abbrev pub generation_in : Check → ℕ
generation_in (ItemIndex s i) = generation_at i
generation_in (InnerIndex i) = generation_at i
generation_in (PlainId m) = generation_of m.0
generation_in (Clause n holds) = 0
generation_in (Covered f holds) = 0

-- the greatest generation among the items
abbrev pub greatest_item : List Item → ℕ
greatest_item xs = max_of (map (λ x. generation_or_zero x.id) xs)

-- the greatest generation among the checks
abbrev pub greatest_asked : List Check → ℕ
greatest_asked asks = max_of (map generation_in asks)

-- the greatest generation in a list of fields, or 0 if there is none
abbrev pub greatest_generation : List ModuleField → ℕ
greatest_generation fields = max (greatest_item (items fields)) (greatest_asked (checks_of (in_module fields)))
