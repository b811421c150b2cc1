-- The bytes of a data segment (text format: data segments).
--
--   (data "ab" "c")     97 98 99
use Rattle.std.specs.Prelude.{ℕ, List, flat_map}
use Rattle.wast_tree_nodes.specs.Tree.{DataVal}
use Rattle.wast_tree_nodes.specs.Tree.bytes

-- the bytes of a piece
abbrev pub data_bytes : DataVal → List ℕ
data_bytes (bytes.«String» s) = s.now
data_bytes (bytes.Integral bs) = bs

-- the bytes of all pieces, in order
abbrev pub all_bytes : List DataVal → List ℕ
all_bytes pieces = flat_map data_bytes pieces
