-- Short names of the types of the AST, so that definitions can match on them: `index.Num` is the variant `Num` of `Index`.
pub use Rattle.wast_base.specs.declared.ids.Index.{Index}
pub use Rattle.wast_base.specs.declared.ids.Index.TheVariants as index
pub use Rattle.wast_tree_nodes.specs.declared.types.ValType.{ValType}
pub use Rattle.wast_tree_nodes.specs.declared.types.ValType.TheVariants as value
pub use Rattle.wast_tree_nodes.specs.declared.types.RefType.{RefType}
pub use Rattle.wast_tree_nodes.specs.declared.types.HeapType.{HeapType}
pub use Rattle.wast_tree_nodes.specs.declared.types.HeapType.TheVariants as heap
pub use Rattle.wast_tree_nodes.specs.declared.types.AbstractHeapType.{AbstractHeapType}
pub use Rattle.wast_tree_nodes.specs.declared.types.AbstractHeapType.TheVariants as abstract
pub use Rattle.wast_tree_nodes.specs.declared.types.FunctionType.{FunctionType}
pub use Rattle.wast_tree_nodes.specs.declared.immediates.MemArg.{MemArg}
pub use Rattle.wast_tree_nodes.specs.declared.immediates.MemArgTarget.{MemArgTarget}
pub use Rattle.wast_tree_nodes.specs.declared.immediates.MemArgTarget.TheVariants as target
pub use Rattle.wast_tree_nodes.specs.declared.immediates.MemArgOrdering.{MemArgOrdering}
pub use Rattle.wast_tree_nodes.specs.declared.instrs.Instruction.{Instruction}
pub use Rattle.wast_tree_nodes.specs.declared.instrs.Instruction.TheVariants as instr
