-- The types of the tree under one roof, as in wast_tree_nodes: each type by its name, the variants of an enum behind a word.
pub use Rattle.wast_tree_map.specs.Tree.{Id, Index, ValType, RefType, FunctionType, TypeUse, Rec, BlockType, BrTableIndices, TryTable, TryTableCatch, SelectTypes, Instruction, Expression, TagType, ImportItems, ItemKind, Elem, ElemPayload, DataKind, TableType, GlobalType, TableKind, Global, GlobalKind, Local, FuncKind, Func, ModuleField, ResumeTable, Handle, ItemSig, Custom}
pub use Rattle.wast_tree_map.specs.Tree.index
pub use Rattle.wast_tree_map.specs.Tree.space
pub use Rattle.wast_tree_map.specs.Tree.ty
pub use Rattle.wast_tree_map.specs.Tree.instr
pub use Rattle.wast_tree_map.specs.Tree.import_items
pub use Rattle.wast_tree_map.specs.Tree.kind
pub use Rattle.wast_tree_map.specs.Tree.elem
pub use Rattle.wast_tree_map.specs.Tree.payload
pub use Rattle.wast_tree_map.specs.Tree.data_kind
pub use Rattle.wast_tree_map.specs.Tree.table
pub use Rattle.wast_tree_map.specs.Tree.global
pub use Rattle.wast_tree_map.specs.Tree.func
pub use Rattle.wast_tree_map.specs.Tree.field
pub use Rattle.wast_tree_map.specs.Tree.handle
pub use Rattle.wast_tree_map.specs.Tree.form
pub use Rattle.wast_tree_map.specs.Tree.custom
pub use Rattle.wast_tree_nodes.specs.declared.fields.InlineImport.{InlineImport}
