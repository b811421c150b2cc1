-- The types of the tree under one roof, as in wast_tree_nodes: each type by its name, the variants of an enum behind a word.
pub use Rattle.wast_tree_map.specs.Tree.{Span, Id, Index, NameAnnotation, Space, ValType, RefType, HeapType, StructField, FunctionType, TypeUse, InnerTypeKind, BlockType, TryTableCatch, TryTableCatchKind, Instruction, Expression, MemoryType, Local, FuncKind, ModuleField, Handle, ResumeTable, Custom, Dylink0Subsection}
pub use Rattle.wast_tree_map.specs.Tree.index
pub use Rattle.wast_tree_map.specs.Tree.space
pub use Rattle.wast_tree_map.specs.Tree.value
pub use Rattle.wast_tree_map.specs.Tree.heap
pub use Rattle.wast_tree_map.specs.Tree.storage
pub use Rattle.wast_tree_map.specs.Tree.inner
pub use Rattle.wast_tree_map.specs.Tree.bare
pub use Rattle.wast_tree_map.specs.Tree.plain
pub use Rattle.wast_tree_map.specs.Tree.caught
pub use Rattle.wast_tree_map.specs.Tree.instr
pub use Rattle.wast_tree_map.specs.Tree.tag
pub use Rattle.wast_tree_map.specs.Tree.import_items
pub use Rattle.wast_tree_map.specs.Tree.kind
pub use Rattle.wast_tree_map.specs.Tree.elem
pub use Rattle.wast_tree_map.specs.Tree.payload
pub use Rattle.wast_tree_map.specs.Tree.table
pub use Rattle.wast_tree_map.specs.Tree.memory
pub use Rattle.wast_tree_map.specs.Tree.global
pub use Rattle.wast_tree_map.specs.Tree.tag_kind
pub use Rattle.wast_tree_map.specs.Tree.func
pub use Rattle.wast_tree_map.specs.Tree.field
pub use Rattle.wast_tree_map.specs.Tree.form
pub use Rattle.wast_tree_map.specs.Tree.handle
pub use Rattle.wast_tree_map.specs.Tree.custom
pub use Rattle.wast_tree_map.specs.Tree.dylink
