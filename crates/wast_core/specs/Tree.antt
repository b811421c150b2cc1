-- The types of the tree under one roof, as in wast_tree_nodes: each type by its name, the variants of an enum behind a word.
pub use Rattle.wast_base.specs.declared.ids.Id.{Id}
pub use Rattle.wast_base.specs.declared.ids.Index.{Index}
pub use Rattle.wast_base.specs.declared.ids.Index.TheVariants as index
pub use Rattle.wast_base.specs.declared.ids.NameAnnotation.{NameAnnotation}
pub use Rattle.wast_base.specs.declared.spaces.Space.{Space}
pub use Rattle.wast_base.specs.declared.spaces.Space.TheVariants as space
pub use Rattle.wast_tree_nodes.specs.declared.types.ValType.{ValType}
pub use Rattle.wast_tree_nodes.specs.declared.types.ValType.TheVariants as value
pub use Rattle.wast_tree_nodes.specs.declared.types.RefType.{RefType}
pub use Rattle.wast_tree_nodes.specs.declared.types.HeapType.{HeapType}
pub use Rattle.wast_tree_nodes.specs.declared.types.HeapType.TheVariants as heap
pub use Rattle.wast_tree_nodes.specs.declared.types.AbstractHeapType.TheVariants as abstract
pub use Rattle.wast_tree_nodes.specs.declared.types.StorageType.{StorageType}
pub use Rattle.wast_tree_nodes.specs.declared.types.StructField.{StructField}
pub use Rattle.wast_tree_nodes.specs.declared.types.FunctionType.{FunctionType}
pub use Rattle.wast_tree_nodes.specs.declared.types.TypeUse.{TypeUse}
pub use Rattle.wast_tree_nodes.specs.declared.types.InnerTypeKind.{InnerTypeKind}
pub use Rattle.wast_tree_nodes.specs.declared.types.InnerTypeKind.TheVariants as inner
pub use Rattle.wast_tree_nodes.specs.declared.types.TypeDef.{TypeDef}
pub use Rattle.wast_tree_nodes.specs.declared.types.Type as ty
pub use Rattle.wast_tree_nodes.specs.declared.immediates.BlockType.{BlockType}
pub use Rattle.wast_tree_nodes.specs.declared.immediates.MemArg.{MemArg}
pub use Rattle.wast_tree_nodes.specs.declared.immediates.TryTableCatch.{TryTableCatch}
pub use Rattle.wast_tree_nodes.specs.declared.instrs.Instruction.{Instruction}
pub use Rattle.wast_tree_nodes.specs.declared.instrs.Instruction.TheVariants as instr
pub use Rattle.wast_tree_nodes.specs.declared.instrs.BranchHint.{BranchHint}
pub use Rattle.wast_tree_nodes.specs.declared.instrs.Expression.{Expression}
pub use Rattle.wast_tree_nodes.specs.declared.entities.TableType.{TableType}
pub use Rattle.wast_tree_nodes.specs.declared.entities.GlobalType.{GlobalType}
pub use Rattle.wast_tree_nodes.specs.declared.entities.TagType.{TagType}
pub use Rattle.wast_tree_nodes.specs.declared.entities.TagType.TheVariants as tag
pub use Rattle.wast_tree_nodes.specs.declared.imports.ImportItems.{ImportItems}
pub use Rattle.wast_tree_nodes.specs.declared.imports.ImportItems.TheVariants as import_items
pub use Rattle.wast_tree_nodes.specs.declared.imports.ItemSig.{ItemSig}
pub use Rattle.wast_tree_nodes.specs.declared.imports.ItemKind.{ItemKind}
pub use Rattle.wast_tree_nodes.specs.declared.imports.ItemKind.TheVariants as kind
pub use Rattle.wast_tree_nodes.specs.declared.segments.ElemKind.{ElemKind}
pub use Rattle.wast_tree_nodes.specs.declared.segments.ElemKind.TheVariants as elem
pub use Rattle.wast_tree_nodes.specs.declared.segments.ElemPayload.{ElemPayload}
pub use Rattle.wast_tree_nodes.specs.declared.segments.ElemPayload.TheVariants as payload
pub use Rattle.wast_tree_nodes.specs.declared.segments.DataKind.{DataKind}
pub use Rattle.wast_tree_nodes.specs.declared.segments.DataKind.TheVariants as data_kind
pub use Rattle.wast_tree_nodes.specs.declared.segments.DataVal.TheVariants as bytes
pub use Rattle.wast_tree_nodes.specs.declared.fields.Local.{Local}
pub use Rattle.wast_tree_nodes.specs.declared.fields.FuncKind.{FuncKind}
pub use Rattle.wast_tree_nodes.specs.declared.fields.FuncKind.TheVariants as func
pub use Rattle.wast_tree_nodes.specs.declared.fields.Func.{Func}
pub use Rattle.wast_tree_nodes.specs.declared.fields.TableKind.{TableKind}
pub use Rattle.wast_tree_nodes.specs.declared.fields.TableKind.TheVariants as table
pub use Rattle.wast_tree_nodes.specs.declared.fields.Memory.{Memory}
pub use Rattle.wast_tree_nodes.specs.declared.fields.MemoryKind.{MemoryKind}
pub use Rattle.wast_tree_nodes.specs.declared.fields.MemoryKind.TheVariants as memory
pub use Rattle.wast_tree_nodes.specs.declared.fields.GlobalKind.{GlobalKind}
pub use Rattle.wast_tree_nodes.specs.declared.fields.GlobalKind.TheVariants as global
pub use Rattle.wast_tree_nodes.specs.declared.fields.ExportKind.TheVariants as export
pub use Rattle.wast_tree_nodes.specs.declared.customs.Custom.{Custom}
pub use Rattle.wast_tree_nodes.specs.declared.customs.Custom.TheVariants as custom
pub use Rattle.wast_tree_nodes.specs.declared.customs.CustomPlace.{CustomPlace}
pub use Rattle.wast_tree_nodes.specs.declared.customs.CustomPlace.TheVariants as custom_place
pub use Rattle.wast_tree_nodes.specs.declared.customs.CustomPlaceAnchor.{CustomPlaceAnchor}
pub use Rattle.wast_tree_nodes.specs.declared.customs.CustomPlaceAnchor.TheVariants as anchor
pub use Rattle.wast_tree_nodes.specs.declared.customs.Dylink0Subsection.TheVariants as dylink
pub use Rattle.wast_tree_nodes.specs.declared.fields.ModuleField.{ModuleField}
pub use Rattle.wast_tree_nodes.specs.declared.fields.ModuleField.TheVariants as field
