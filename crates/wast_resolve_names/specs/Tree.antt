-- The types of the tree under one roof, as in wast_tree_nodes: each type by its name, the variants of an enum behind a word.
pub use Rattle.wast_tree_map.specs.Tree.{Span, Id, Index, Space, ValType, RefType}
pub use Rattle.wast_tree_map.specs.Tree.index
pub use Rattle.wast_tree_map.specs.Tree.space
