-- The types of the tree under one roof, as in wast_tree_nodes: each type by its name, the variants of an enum behind a word.
pub use Rattle.wast_tree_map.specs.Tree.{Span, Id, Index, NameAnnotation, Space, ValType, RefType, HeapType, StructField, FunctionType, TypeUse, InnerTypeKind, TypeDef, Rec, BrTableIndices, TryTable, TryTableCatch, MemArg, MemArgTarget, Instruction, Expression, TagType, ImportItems, ItemSig, ItemKind, ElemKind, ElemPayload, DataKind, DataVal, Table, TableKind, Memory, MemoryKind, Global, GlobalKind, Tag, TagKind, Local, FuncKind, Func, ExportKind, ModuleField, Handle, ResumeTable, Custom, Dylink0Subsection}
pub use Rattle.wast_tree_map.specs.Tree.index
pub use Rattle.wast_tree_map.specs.Tree.space
pub use Rattle.wast_tree_map.specs.Tree.value
pub use Rattle.wast_tree_map.specs.Tree.heap
pub use Rattle.wast_tree_map.specs.Tree.inner
pub use Rattle.wast_tree_map.specs.Tree.ty
pub use Rattle.wast_tree_map.specs.Tree.target
pub use Rattle.wast_tree_map.specs.Tree.instr
pub use Rattle.wast_tree_map.specs.Tree.tag
pub use Rattle.wast_tree_map.specs.Tree.import_items
pub use Rattle.wast_tree_map.specs.Tree.kind
pub use Rattle.wast_tree_map.specs.Tree.elem
pub use Rattle.wast_tree_map.specs.Tree.payload
pub use Rattle.wast_tree_map.specs.Tree.data_kind
pub use Rattle.wast_tree_map.specs.Tree.table
pub use Rattle.wast_tree_map.specs.Tree.memory
pub use Rattle.wast_tree_map.specs.Tree.global
pub use Rattle.wast_tree_map.specs.Tree.tag_kind
pub use Rattle.wast_tree_map.specs.Tree.func
pub use Rattle.wast_tree_map.specs.Tree.export
pub use Rattle.wast_tree_map.specs.Tree.field
pub use Rattle.wast_tree_map.specs.Tree.form
pub use Rattle.wast_tree_map.specs.Tree.handle
pub use Rattle.wast_tree_map.specs.Tree.custom
pub use Rattle.wast_tree_map.specs.Tree.dylink
pub use Rattle.wast_base.specs.declared.faults.Form.{Form}
