-- Short names of the AST types, as in wast_tree_nodes, so that definitions can match on them.
pub use Rattle.wast_base.specs.declared.ids.Id.{Id}
pub use Rattle.wast_base.specs.declared.ids.Index.{Index}
pub use Rattle.wast_base.specs.declared.ids.Index.TheVariants as index
pub use Rattle.wast_base.specs.declared.faults.Form.{Form}
pub use Rattle.wast_base.specs.declared.faults.Form.TheVariants as form
pub use Rattle.wast_base.specs.declared.spaces.Space.{Space}
pub use Rattle.wast_base.specs.declared.spaces.Space.TheVariants as space
pub use Rattle.wast_tree_nodes.specs.declared.types.ValType.{ValType}
pub use Rattle.wast_tree_nodes.specs.declared.types.ValType.TheVariants as value
pub use Rattle.wast_tree_nodes.specs.declared.types.RefType.{RefType}
pub use Rattle.wast_tree_nodes.specs.declared.types.HeapType.TheVariants as heap
pub use Rattle.wast_tree_nodes.specs.declared.types.AbstractHeapType.TheVariants as abstract
pub use Rattle.wast_tree_nodes.specs.declared.types.StorageType.TheVariants as storage
pub use Rattle.wast_tree_nodes.specs.declared.types.StructField.{StructField}
pub use Rattle.wast_tree_nodes.specs.declared.types.FunctionType.{FunctionType}
pub use Rattle.wast_tree_nodes.specs.declared.types.TypeUse.{TypeUse}
pub use Rattle.wast_tree_nodes.specs.declared.types.InnerTypeKind.TheVariants as inner
pub use Rattle.wast_tree_nodes.specs.declared.types.TypeDef.{TypeDef}
pub use Rattle.wast_base.specs.declared.plain.BareOp.TheVariants as bare
pub use Rattle.wast_base.specs.declared.plain.Plain.TheVariants as plain
pub use Rattle.wast_tree_nodes.specs.declared.immediates.BlockType.{BlockType}
pub use Rattle.wast_tree_nodes.specs.declared.immediates.TryTableCatchKind.TheVariants as caught
pub use Rattle.wast_tree_nodes.specs.declared.immediates.MemArgTarget.TheVariants as target
pub use Rattle.wast_tree_nodes.specs.declared.immediates.MemArg.{MemArg}
pub use Rattle.wast_tree_nodes.specs.declared.immediates.Ordering.TheVariants as ordering
pub use Rattle.wast_tree_nodes.specs.declared.continuations.ResumeTable.{ResumeTable}
pub use Rattle.wast_tree_nodes.specs.declared.continuations.Handle.TheVariants as handle
pub use Rattle.wast_tree_nodes.specs.declared.instrs.Instruction.{Instruction}
pub use Rattle.wast_tree_nodes.specs.declared.instrs.Instruction.TheVariants as instr
pub use Rattle.wast_tree_nodes.specs.declared.instrs.BranchHint.{BranchHint}
pub use Rattle.wast_tree_nodes.specs.declared.instrs.Expression.{Expression}
pub use Rattle.wast_tree_nodes.specs.declared.entities.TableType.{TableType}
pub use Rattle.wast_tree_nodes.specs.declared.entities.GlobalType.{GlobalType}
pub use Rattle.wast_tree_nodes.specs.declared.imports.ImportItems.TheVariants as import_items
pub use Rattle.wast_tree_nodes.specs.declared.imports.ItemKind.TheVariants as kind
pub use Rattle.wast_tree_nodes.specs.declared.segments.ElemKind.TheVariants as elem
pub use Rattle.wast_tree_nodes.specs.declared.segments.ElemPayload.{ElemPayload}
pub use Rattle.wast_tree_nodes.specs.declared.segments.ElemPayload.TheVariants as payload
pub use Rattle.wast_tree_nodes.specs.declared.segments.DataVal.TheVariants as bytes
pub use Rattle.wast_tree_nodes.specs.declared.fields.InlineImport.{InlineImport}
pub use Rattle.wast_tree_nodes.specs.declared.fields.FuncKind.TheVariants as func
pub use Rattle.wast_tree_nodes.specs.declared.fields.Func.{Func}
pub use Rattle.wast_tree_nodes.specs.declared.fields.TableKind.TheVariants as table
pub use Rattle.wast_tree_nodes.specs.declared.fields.MemoryKind.TheVariants as memory
pub use Rattle.wast_tree_nodes.specs.declared.fields.GlobalKind.TheVariants as global
pub use Rattle.wast_tree_nodes.specs.declared.fields.ModuleField.{ModuleField}
pub use Rattle.wast_tree_nodes.specs.declared.fields.ModuleField.TheVariants as field
