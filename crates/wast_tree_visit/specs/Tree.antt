-- Short names of the AST types, as in wast_tree_nodes, so that definitions can match on them.
pub use Rattle.wast_base.specs.declared.ids.Span.{Span}
pub use Rattle.wast_base.specs.declared.ids.Id.{Id}
pub use Rattle.wast_base.specs.declared.ids.Index.{Index}
pub use Rattle.wast_base.specs.declared.ids.Index.TheVariants as index
pub use Rattle.wast_base.specs.declared.faults.Form.{Form}
pub use Rattle.wast_base.specs.declared.faults.Form.TheVariants as form
pub use Rattle.wast_base.specs.declared.spaces.Space.{Space}
pub use Rattle.wast_base.specs.declared.spaces.Space.TheVariants as space
pub use Rattle.wast_tree_nodes.specs.declared.types.RefType.{RefType}
pub use Rattle.wast_tree_nodes.specs.declared.types.FunctionType.{FunctionType}
pub use Rattle.wast_tree_nodes.specs.declared.types.TypeUse.{TypeUse}
pub use Rattle.wast_tree_nodes.specs.declared.immediates.BlockType.{BlockType}
pub use Rattle.wast_tree_nodes.specs.declared.immediates.BrTableIndices.{BrTableIndices}
pub use Rattle.wast_tree_nodes.specs.declared.immediates.TryTable.{TryTable}
pub use Rattle.wast_tree_nodes.specs.declared.immediates.TryTableCatch.{TryTableCatch}
pub use Rattle.wast_tree_nodes.specs.declared.continuations.ResumeTable.{ResumeTable}
pub use Rattle.wast_tree_nodes.specs.declared.continuations.Handle.{Handle}
pub use Rattle.wast_tree_nodes.specs.declared.continuations.Handle.TheVariants as handle
pub use Rattle.wast_tree_nodes.specs.declared.instrs.Instruction.{Instruction}
pub use Rattle.wast_tree_nodes.specs.declared.instrs.Expression.{Expression}
pub use Rattle.wast_tree_nodes.specs.declared.fields.Local.{Local}
pub use Rattle.wast_tree_nodes.specs.declared.fields.FuncKind.TheVariants as func
pub use Rattle.wast_tree_nodes.specs.declared.customs.Custom.{Custom}
pub use Rattle.wast_tree_nodes.specs.declared.customs.Custom.TheVariants as custom
pub use Rattle.wast_tree_nodes.specs.declared.fields.ModuleField.{ModuleField}
pub use Rattle.wast_tree_nodes.specs.declared.fields.ModuleField.TheVariants as field
