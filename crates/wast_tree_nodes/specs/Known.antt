-- The identifier context of a module: the index that a name refers to in each index space (text format: identifiers).
--
--   (func) (func $f) (memory $f)     $f is function 1 and memory 0; $g is not defined
use Rattle.std.specs.Prelude.{ℕ, List, [], ◌∷◌, Option, flat_map, if◌then◌else◌}
use Rattle.wast_tree_nodes.specs.Tree.{Space}
use Rattle.wast_base.specs.Ids.{Name}
use Rattle.wast_base.specs.Spaces.{same_space, name_if, position_of}
use Rattle.wast_tree_nodes.specs.Items.{Item}

-- the name of an item, if the item is of this index space
abbrev pub name_in : Space → Item → List (Option Name)
name_in s x = if same_space s x.space then name_if x.id ∷ [] else []

-- the names of all items of an index space, in their order
abbrev pub names_in : Space → List Item → List (Option Name)
names_in s xs = flat_map (name_in s) xs

-- an identifier context
pub record IdContext : Type 0 where
  pub number : Space → Name → Option ℕ

-- the identifier context of these items; a name refers to the first item that has it
abbrev pub id_context : List Item → IdContext
id_context xs = record { number = λ s name. position_of name (names_in s xs) }
