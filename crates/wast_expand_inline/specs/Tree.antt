-- The types of the tree under one roof, as in wast_tree_nodes: each type by its name, the variants of an enum behind a word.
pub use Rattle.wast_base.specs.declared.ids.Span.{Span}
pub use Rattle.wast_base.specs.declared.ids.Id.{Id}
pub use Rattle.wast_base.specs.declared.ids.Index.{Index}
pub use Rattle.wast_base.specs.declared.ids.Index.TheVariants as index
pub use Rattle.wast_base.specs.declared.ids.NameAnnotation.{NameAnnotation}
pub use Rattle.wast_base.specs.declared.spaces.Space.{Space}
pub use Rattle.wast_base.specs.declared.spaces.Space.TheVariants as space
pub use Rattle.wast_tree_nodes.specs.declared.types.RefType.{RefType}
pub use Rattle.wast_tree_nodes.specs.declared.types.HeapType.TheVariants as heap
pub use Rattle.wast_tree_nodes.specs.declared.types.AbstractHeapType.TheVariants as abstract
pub use Rattle.wast_tree_nodes.specs.declared.types.FunctionType.{FunctionType}
pub use Rattle.wast_tree_nodes.specs.declared.types.TypeUse.{TypeUse}
pub use Rattle.wast_tree_nodes.specs.declared.instrs.Instruction.{Instruction}
pub use Rattle.wast_tree_nodes.specs.declared.instrs.Instruction.TheVariants as instr
pub use Rattle.wast_tree_nodes.specs.declared.instrs.Expression.{Expression}
pub use Rattle.wast_tree_nodes.specs.declared.entities.Limits.{Limits}
pub use Rattle.wast_tree_nodes.specs.declared.entities.TableType.{TableType}
pub use Rattle.wast_tree_nodes.specs.declared.entities.MemoryType.{MemoryType}
pub use Rattle.wast_tree_nodes.specs.declared.entities.TagType.TheVariants as tag
pub use Rattle.wast_tree_nodes.specs.declared.imports.ImportItems.TheVariants as import_items
pub use Rattle.wast_tree_nodes.specs.declared.imports.ItemKind.{ItemKind}
pub use Rattle.wast_tree_nodes.specs.declared.imports.ItemKind.TheVariants as kind
pub use Rattle.wast_tree_nodes.specs.declared.segments.ElemKind.TheVariants as elem
pub use Rattle.wast_tree_nodes.specs.declared.segments.ElemPayload.{ElemPayload}
pub use Rattle.wast_tree_nodes.specs.declared.segments.ElemPayload.TheVariants as payload
pub use Rattle.wast_tree_nodes.specs.declared.segments.DataKind.TheVariants as data_kind
pub use Rattle.wast_tree_nodes.specs.declared.segments.DataVal.{DataVal}
pub use Rattle.wast_tree_nodes.specs.declared.segments.DataVal.TheVariants as bytes
pub use Rattle.wast_tree_nodes.specs.declared.fields.InlineExport.{InlineExport}
pub use Rattle.wast_tree_nodes.specs.declared.fields.InlineImport.{InlineImport}
pub use Rattle.wast_tree_nodes.specs.declared.fields.FuncKind.{FuncKind}
pub use Rattle.wast_tree_nodes.specs.declared.fields.FuncKind.TheVariants as func
pub use Rattle.wast_tree_nodes.specs.declared.fields.Func.{Func}
pub use Rattle.wast_tree_nodes.specs.declared.fields.Table.{Table}
pub use Rattle.wast_tree_nodes.specs.declared.fields.TableKind.{TableKind}
pub use Rattle.wast_tree_nodes.specs.declared.fields.TableKind.TheVariants as table
pub use Rattle.wast_tree_nodes.specs.declared.fields.Memory.{Memory}
pub use Rattle.wast_tree_nodes.specs.declared.fields.MemoryKind.{MemoryKind}
pub use Rattle.wast_tree_nodes.specs.declared.fields.MemoryKind.TheVariants as memory
pub use Rattle.wast_tree_nodes.specs.declared.fields.Global.{Global}
pub use Rattle.wast_tree_nodes.specs.declared.fields.GlobalKind.{GlobalKind}
pub use Rattle.wast_tree_nodes.specs.declared.fields.GlobalKind.TheVariants as global
pub use Rattle.wast_tree_nodes.specs.declared.fields.Tag.{Tag}
pub use Rattle.wast_tree_nodes.specs.declared.fields.TagKind.{TagKind}
pub use Rattle.wast_tree_nodes.specs.declared.fields.TagKind.TheVariants as tag_kind
pub use Rattle.wast_tree_nodes.specs.declared.fields.ExportKind.{ExportKind}
pub use Rattle.wast_tree_nodes.specs.declared.fields.ExportKind.TheVariants as export
pub use Rattle.wast_tree_nodes.specs.declared.fields.ModuleField.{ModuleField}
pub use Rattle.wast_tree_nodes.specs.declared.fields.ModuleField.TheVariants as field
