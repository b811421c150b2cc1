-- The types of the tree under one roof, as in wast_tree_nodes: each type by its name, the variants of an enum behind a word.
pub use Rattle.wast_tree_map.specs.Tree.{Span, Id, Index, NameAnnotation, ValType, RefType, FunctionType, TypeUse, BlockType, BrTableIndices, Instruction, Expression, ItemSig, Elem, ElemKind, ElemPayload, DataKind, TableKind, Global, Local, FuncKind, ModuleField, Handle, SelectTypes}
pub use Rattle.wast_tree_map.specs.Tree.index
pub use Rattle.wast_tree_map.specs.Tree.space
pub use Rattle.wast_tree_map.specs.Tree.instr
pub use Rattle.wast_tree_map.specs.Tree.import_items
pub use Rattle.wast_tree_map.specs.Tree.elem
pub use Rattle.wast_tree_map.specs.Tree.payload
pub use Rattle.wast_tree_map.specs.Tree.data_kind
pub use Rattle.wast_tree_map.specs.Tree.table
pub use Rattle.wast_tree_map.specs.Tree.func
pub use Rattle.wast_tree_map.specs.Tree.field
pub use Rattle.wast_tree_map.specs.Tree.form
pub use Rattle.wast_tree_map.specs.Tree.handle
