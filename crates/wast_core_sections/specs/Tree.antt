-- The types of the tree under one roof, as in wast_tree_nodes: each type by its name, the variants of an enum behind a word.
pub use Rattle.wast_base.specs.declared.ids.Id.{Id}
pub use Rattle.wast_base.specs.declared.ids.Index.{Index}
pub use Rattle.wast_base.specs.declared.spaces.Space.TheVariants as space
pub use Rattle.wast_base.specs.declared.faults.Form.TheVariants as form
pub use Rattle.wast_tree_nodes.specs.declared.types.FunctionType.{FunctionType}
pub use Rattle.wast_tree_nodes.specs.declared.types.TypeUse.{TypeUse}
pub use Rattle.wast_tree_nodes.specs.declared.types.Type as ty
pub use Rattle.wast_tree_nodes.specs.declared.types.Rec.{Rec}
pub use Rattle.wast_tree_nodes.specs.declared.instrs.Instruction.{Instruction}
pub use Rattle.wast_tree_nodes.specs.declared.instrs.Instruction.TheVariants as instr
pub use Rattle.wast_tree_nodes.specs.declared.instrs.BranchHint.{BranchHint}
pub use Rattle.wast_tree_nodes.specs.declared.instrs.Expression.{Expression}
pub use Rattle.wast_tree_nodes.specs.declared.entities.GlobalType.{GlobalType}
pub use Rattle.wast_tree_nodes.specs.declared.imports.Imports.{Imports}
pub use Rattle.wast_tree_nodes.specs.declared.imports.ImportItems.{ImportItems}
pub use Rattle.wast_tree_nodes.specs.declared.imports.ImportItems.TheVariants as import_items
pub use Rattle.wast_tree_nodes.specs.declared.imports.ItemSig.{ItemSig}
pub use Rattle.wast_tree_nodes.specs.declared.segments.Elem.{Elem}
pub use Rattle.wast_tree_nodes.specs.declared.segments.Data.{Data}
pub use Rattle.wast_tree_nodes.specs.declared.fields.FuncKind.{FuncKind}
pub use Rattle.wast_tree_nodes.specs.declared.fields.FuncKind.TheVariants as func
pub use Rattle.wast_tree_nodes.specs.declared.fields.Func.{Func}
pub use Rattle.wast_tree_nodes.specs.declared.fields.Table.{Table}
pub use Rattle.wast_tree_nodes.specs.declared.fields.TableKind.{TableKind}
pub use Rattle.wast_tree_nodes.specs.declared.fields.TableKind.TheVariants as table
pub use Rattle.wast_tree_nodes.specs.declared.fields.Memory.{Memory}
pub use Rattle.wast_tree_nodes.specs.declared.fields.Global.{Global}
pub use Rattle.wast_tree_nodes.specs.declared.fields.GlobalKind.{GlobalKind}
pub use Rattle.wast_tree_nodes.specs.declared.fields.GlobalKind.TheVariants as global
pub use Rattle.wast_tree_nodes.specs.declared.fields.Tag.{Tag}
pub use Rattle.wast_tree_nodes.specs.declared.fields.Export.{Export}
pub use Rattle.wast_tree_nodes.specs.declared.customs.Custom.{Custom}
pub use Rattle.wast_tree_nodes.specs.declared.customs.CustomPlace.{CustomPlace}
pub use Rattle.wast_tree_nodes.specs.declared.customs.CustomPlace.TheVariants as custom_place
pub use Rattle.wast_tree_nodes.specs.declared.customs.CustomPlaceAnchor.{CustomPlaceAnchor}
pub use Rattle.wast_tree_nodes.specs.declared.customs.CustomPlaceAnchor.TheVariants as anchor
pub use Rattle.wast_tree_nodes.specs.declared.fields.ModuleField.{ModuleField}
pub use Rattle.wast_tree_nodes.specs.declared.fields.ModuleField.TheVariants as field
