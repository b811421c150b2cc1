-- The types of the tree under one roof, as in wast_tree_nodes: each type by its name, the variants of an enum behind a word.
pub use Rattle.wast_tree_map.specs.Tree.{Span, Id, Index, NameAnnotation, Space, ValType, RefType, HeapType, StorageType, StructField, StructType, ArrayType, FunctionType, InnerTypeKind, TypeDef}
pub use Rattle.wast_tree_map.specs.Tree.index
pub use Rattle.wast_tree_map.specs.Tree.space
pub use Rattle.wast_tree_map.specs.Tree.inner
pub use Rattle.wast_tree_map.specs.Tree.ty
pub use Rattle.wast_tree_map.specs.Tree.form
pub use Rattle.wast_base.specs.declared.faults.Form.{Form}
