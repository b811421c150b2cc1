-- The types of the tree under one roof, as in wast_tree_nodes: each type by its name, the variants of an enum behind a word.
pub use Rattle.wast_tree_map.specs.Tree.{Span, Space, StructField, ModuleField}
pub use Rattle.wast_tree_map.specs.Tree.space
pub use Rattle.wast_tree_map.specs.Tree.ty
pub use Rattle.wast_tree_map.specs.Tree.field
