-- The types of the tree under one roof, as in wast_tree_nodes: each type by its name, the variants of an enum behind a word.
pub use Rattle.wast_tree_map.specs.Tree.{Span, Id, Index, NameAnnotation, ValType, RefType, HeapType, AbstractHeapType, FunctionType, TypeUse, InnerTypeKind, TypeDef, Expression, ModuleField}
pub use Rattle.wast_tree_map.specs.Tree.index
pub use Rattle.wast_tree_map.specs.Tree.space
pub use Rattle.wast_tree_map.specs.Tree.value
pub use Rattle.wast_tree_map.specs.Tree.heap
pub use Rattle.wast_tree_map.specs.Tree.abstract
pub use Rattle.wast_tree_map.specs.Tree.inner
pub use Rattle.wast_tree_map.specs.Tree.ty
pub use Rattle.wast_tree_map.specs.Tree.instr
pub use Rattle.wast_tree_map.specs.Tree.tag
pub use Rattle.wast_tree_map.specs.Tree.import_items
pub use Rattle.wast_tree_map.specs.Tree.kind
pub use Rattle.wast_tree_map.specs.Tree.global
pub use Rattle.wast_tree_map.specs.Tree.tag_kind
pub use Rattle.wast_tree_map.specs.Tree.func
pub use Rattle.wast_tree_map.specs.Tree.field
