-- The types of the tree under one roof, as in wast_tree_nodes, with what names are read of: each type by its name, the variants of an enum behind a word.
pub use Rattle.wast_base.specs.declared.ids.Id.{Id}
pub use Rattle.wast_base.specs.declared.ids.Index.{Index}
pub use Rattle.wast_base.specs.declared.ids.Index.TheVariants as index
pub use Rattle.wast_base.specs.declared.ids.NameAnnotation.{NameAnnotation}
pub use Rattle.wast_base.specs.declared.spaces.Space.{Space}
pub use Rattle.wast_base.specs.declared.spaces.Space.TheVariants as space
pub use Rattle.wast_tree_nodes.specs.declared.types.ValType.{ValType}
pub use Rattle.wast_tree_nodes.specs.declared.types.ValType.TheVariants as value
pub use Rattle.wast_tree_nodes.specs.declared.types.HeapType.TheVariants as heap
pub use Rattle.wast_tree_nodes.specs.declared.types.AbstractHeapType.TheVariants as abstract
pub use Rattle.wast_tree_nodes.specs.declared.types.StorageType.TheVariants as storage
pub use Rattle.wast_tree_nodes.specs.declared.types.StructField.{StructField}
pub use Rattle.wast_tree_nodes.specs.declared.types.FunctionType.{FunctionType}
pub use Rattle.wast_tree_nodes.specs.declared.types.TypeUse.{TypeUse}
pub use Rattle.wast_tree_nodes.specs.declared.types.InnerTypeKind.{InnerTypeKind}
pub use Rattle.wast_tree_nodes.specs.declared.types.InnerTypeKind.TheVariants as inner
pub use Rattle.wast_tree_nodes.specs.declared.types.Type as ty
pub use Rattle.wast_tree_nodes.specs.declared.immediates.BlockType.{BlockType}
pub use Rattle.wast_tree_nodes.specs.declared.instrs.Instruction.{Instruction}
pub use Rattle.wast_tree_nodes.specs.declared.instrs.Instruction.TheVariants as instr
pub use Rattle.wast_tree_nodes.specs.declared.entities.TagType.{TagType}
pub use Rattle.wast_tree_nodes.specs.declared.entities.TagType.TheVariants as tag
pub use Rattle.wast_tree_nodes.specs.declared.imports.ItemSig.{ItemSig}
pub use Rattle.wast_tree_nodes.specs.declared.imports.ImportItems.{ImportItems}
pub use Rattle.wast_tree_nodes.specs.declared.imports.ImportItems.TheVariants as import_items
pub use Rattle.wast_tree_nodes.specs.declared.imports.ItemKind.{ItemKind}
pub use Rattle.wast_tree_nodes.specs.declared.imports.ItemKind.TheVariants as kind
pub use Rattle.wast_tree_nodes.specs.declared.segments.ElemKind.TheVariants as elem
pub use Rattle.wast_tree_nodes.specs.declared.segments.ElemPayload.TheVariants as payload
pub use Rattle.wast_tree_nodes.specs.declared.segments.DataKind.TheVariants as data_kind
pub use Rattle.wast_tree_nodes.specs.declared.fields.Local.{Local}
pub use Rattle.wast_tree_nodes.specs.declared.fields.FuncKind.{FuncKind}
pub use Rattle.wast_tree_nodes.specs.declared.fields.FuncKind.TheVariants as func
pub use Rattle.wast_tree_nodes.specs.declared.fields.Func.{Func}
pub use Rattle.wast_tree_nodes.specs.declared.fields.TableKind.TheVariants as table
pub use Rattle.wast_tree_nodes.specs.declared.fields.GlobalKind.TheVariants as global
pub use Rattle.wast_tree_nodes.specs.declared.fields.TagKind.TheVariants as tag_kind
pub use Rattle.wast_tree_nodes.specs.declared.fields.ModuleField.{ModuleField}
pub use Rattle.wast_tree_nodes.specs.declared.fields.ModuleField.TheVariants as field
