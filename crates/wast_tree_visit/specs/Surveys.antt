-- Whether a check is of an index of a data segment, for the data count section (binary format: data count section).
--
--   data.drop 0          yes
--   memory.size 0        no
use Rattle.std.specs.Prelude.{Bool, false}
use Rattle.wast_base.specs.Spaces.{same_space}
use Rattle.wast_tree_visit.specs.Tree.space
use Rattle.wast_tree_nodes.specs.Sites.{Check, ItemIndex}

-- whether a check is of an index of a data segment
abbrev pub is_of_data : Check → Bool
is_of_data (ItemIndex s i) = same_space s space.Data
is_of_data a = false
