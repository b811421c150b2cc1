-- Short names of the AST types, so that definitions can match on them: `index.Num` is the variant `Num` of `Index`.
pub use Rattle.wast_base.specs.declared.ids.Span.{Span}
pub use Rattle.wast_base.specs.declared.ids.Id.{Id}
pub use Rattle.wast_base.specs.declared.ids.Index.{Index}
pub use Rattle.wast_base.specs.declared.ids.Index.TheVariants as index
pub use Rattle.wast_base.specs.declared.ids.NameAnnotation.{NameAnnotation}
pub use Rattle.wast_base.specs.declared.faults.Form.{Form}
pub use Rattle.wast_base.specs.declared.faults.Form.TheVariants as form
pub use Rattle.wast_base.specs.declared.spaces.Space.{Space}
pub use Rattle.wast_base.specs.declared.spaces.Space.TheVariants as space
pub use Rattle.wast_tree_nodes.specs.declared.types.ValType.{ValType}
pub use Rattle.wast_tree_nodes.specs.declared.types.ValType.TheVariants as value
pub use Rattle.wast_tree_nodes.specs.declared.types.RefType.{RefType}
pub use Rattle.wast_tree_nodes.specs.declared.types.HeapType.{HeapType}
pub use Rattle.wast_tree_nodes.specs.declared.types.HeapType.TheVariants as heap
pub use Rattle.wast_tree_nodes.specs.declared.types.AbstractHeapType.{AbstractHeapType}
pub use Rattle.wast_tree_nodes.specs.declared.types.AbstractHeapType.TheVariants as abstract
pub use Rattle.wast_tree_nodes.specs.declared.types.StorageType.{StorageType}
pub use Rattle.wast_tree_nodes.specs.declared.types.StorageType.TheVariants as storage
pub use Rattle.wast_tree_nodes.specs.declared.types.StructField.{StructField}
pub use Rattle.wast_tree_nodes.specs.declared.types.StructType.{StructType}
pub use Rattle.wast_tree_nodes.specs.declared.types.ArrayType.{ArrayType}
pub use Rattle.wast_tree_nodes.specs.declared.types.FunctionType.{FunctionType}
pub use Rattle.wast_tree_nodes.specs.declared.types.ContType.{ContType}
pub use Rattle.wast_tree_nodes.specs.declared.types.TypeUse.{TypeUse}
pub use Rattle.wast_tree_nodes.specs.declared.types.InnerTypeKind.{InnerTypeKind}
pub use Rattle.wast_tree_nodes.specs.declared.types.InnerTypeKind.TheVariants as inner
pub use Rattle.wast_tree_nodes.specs.declared.types.TypeDef.{TypeDef}
pub use Rattle.wast_tree_nodes.specs.declared.types.Type as ty
pub use Rattle.wast_tree_nodes.specs.declared.types.Rec.{Rec}
pub use Rattle.wast_base.specs.declared.plain.BareOp.{BareOp}
pub use Rattle.wast_base.specs.declared.plain.BareOp.TheVariants as bare
pub use Rattle.wast_base.specs.declared.plain.Plain.{Plain}
pub use Rattle.wast_base.specs.declared.plain.Plain.TheVariants as plain
pub use Rattle.wast_tree_nodes.specs.declared.immediates.BlockType.{BlockType}
pub use Rattle.wast_tree_nodes.specs.declared.immediates.BrTableIndices.{BrTableIndices}
pub use Rattle.wast_tree_nodes.specs.declared.immediates.TryTable.{TryTable}
pub use Rattle.wast_tree_nodes.specs.declared.immediates.TryTableCatch.{TryTableCatch}
pub use Rattle.wast_tree_nodes.specs.declared.immediates.TryTableCatchKind.{TryTableCatchKind}
pub use Rattle.wast_tree_nodes.specs.declared.immediates.TryTableCatchKind.TheVariants as caught
pub use Rattle.wast_tree_nodes.specs.declared.immediates.TableArg.{TableArg}
pub use Rattle.wast_tree_nodes.specs.declared.immediates.MemoryArg.{MemoryArg}
pub use Rattle.wast_tree_nodes.specs.declared.immediates.MemoryInit.{MemoryInit}
pub use Rattle.wast_tree_nodes.specs.declared.immediates.MemoryCopy.{MemoryCopy}
pub use Rattle.wast_tree_nodes.specs.declared.immediates.TableInit.{TableInit}
pub use Rattle.wast_tree_nodes.specs.declared.immediates.TableCopy.{TableCopy}
pub use Rattle.wast_tree_nodes.specs.declared.immediates.CallIndirect.{CallIndirect}
pub use Rattle.wast_tree_nodes.specs.declared.immediates.SelectTypes.{SelectTypes}
pub use Rattle.wast_tree_nodes.specs.declared.immediates.MemArg.{MemArg}
pub use Rattle.wast_tree_nodes.specs.declared.immediates.MemArgTarget.{MemArgTarget}
pub use Rattle.wast_tree_nodes.specs.declared.immediates.MemArgTarget.TheVariants as target
pub use Rattle.wast_tree_nodes.specs.declared.immediates.MemArgOrdering.{MemArgOrdering}
pub use Rattle.wast_tree_nodes.specs.declared.references.StructAccess.{StructAccess}
pub use Rattle.wast_tree_nodes.specs.declared.references.ArrayNewFixed.{ArrayNewFixed}
pub use Rattle.wast_tree_nodes.specs.declared.references.ArrayNewData.{ArrayNewData}
pub use Rattle.wast_tree_nodes.specs.declared.references.ArrayNewElem.{ArrayNewElem}
pub use Rattle.wast_tree_nodes.specs.declared.references.ArrayFill.{ArrayFill}
pub use Rattle.wast_tree_nodes.specs.declared.references.ArrayCopy.{ArrayCopy}
pub use Rattle.wast_tree_nodes.specs.declared.references.ArrayInit.{ArrayInit}
pub use Rattle.wast_tree_nodes.specs.declared.references.RefTest.{RefTest}
pub use Rattle.wast_tree_nodes.specs.declared.references.RefCast.{RefCast}
pub use Rattle.wast_tree_nodes.specs.declared.references.RefCastDescEq.{RefCastDescEq}
pub use Rattle.wast_tree_nodes.specs.declared.references.BrOnCast.{BrOnCast}
pub use Rattle.wast_tree_nodes.specs.declared.references.BrOnCastFail.{BrOnCastFail}
pub use Rattle.wast_tree_nodes.specs.declared.references.BrOnCastDescEq.{BrOnCastDescEq}
pub use Rattle.wast_tree_nodes.specs.declared.references.BrOnCastDescEqFail.{BrOnCastDescEqFail}
pub use Rattle.wast_tree_nodes.specs.declared.vectors.LaneArg.{LaneArg}
pub use Rattle.wast_tree_nodes.specs.declared.vectors.LoadOrStoreLane.{LoadOrStoreLane}
pub use Rattle.wast_tree_nodes.specs.declared.vectors.V128Const.{V128Const}
pub use Rattle.wast_tree_nodes.specs.declared.vectors.I8x16Shuffle.{I8x16Shuffle}
pub use Rattle.wast_tree_nodes.specs.declared.vectors.V128Const.TheVariants as v128
pub use Rattle.wast_tree_nodes.specs.declared.continuations.ContBind.{ContBind}
pub use Rattle.wast_tree_nodes.specs.declared.continuations.Switch.{Switch}
pub use Rattle.wast_tree_nodes.specs.declared.continuations.Resume.{Resume}
pub use Rattle.wast_tree_nodes.specs.declared.continuations.ResumeThrow.{ResumeThrow}
pub use Rattle.wast_tree_nodes.specs.declared.continuations.ResumeThrowRef.{ResumeThrowRef}
pub use Rattle.wast_tree_nodes.specs.declared.continuations.ResumeTable.{ResumeTable}
pub use Rattle.wast_tree_nodes.specs.declared.continuations.Handle.{Handle}
pub use Rattle.wast_tree_nodes.specs.declared.continuations.Handle.TheVariants as handle
pub use Rattle.wast_tree_nodes.specs.declared.immediates.Ordering.{Ordering}
pub use Rattle.wast_tree_nodes.specs.declared.immediates.Ordering.TheVariants as ordering
pub use Rattle.wast_tree_nodes.specs.declared.immediates.Ordered.{Ordered}
pub use Rattle.wast_tree_nodes.specs.declared.immediates.F32.{F32}
pub use Rattle.wast_tree_nodes.specs.declared.immediates.F64.{F64}
pub use Rattle.wast_tree_nodes.specs.declared.instrs.Instruction.{Instruction}
pub use Rattle.wast_tree_nodes.specs.declared.instrs.Instruction.TheVariants as instr
pub use Rattle.wast_tree_nodes.specs.declared.instrs.BranchHint.{BranchHint}
pub use Rattle.wast_tree_nodes.specs.declared.instrs.Expression.{Expression}
pub use Rattle.wast_tree_nodes.specs.declared.entities.Limits.{Limits}
pub use Rattle.wast_tree_nodes.specs.declared.entities.TableType.{TableType}
pub use Rattle.wast_tree_nodes.specs.declared.entities.MemoryType.{MemoryType}
pub use Rattle.wast_tree_nodes.specs.declared.entities.GlobalType.{GlobalType}
pub use Rattle.wast_tree_nodes.specs.declared.entities.TagType.{TagType}
pub use Rattle.wast_tree_nodes.specs.declared.entities.TagType.TheVariants as tag
pub use Rattle.wast_tree_nodes.specs.declared.imports.Imports.{Imports}
pub use Rattle.wast_tree_nodes.specs.declared.imports.ImportItems.{ImportItems}
pub use Rattle.wast_tree_nodes.specs.declared.imports.ImportItems.TheVariants as import_items
pub use Rattle.wast_tree_nodes.specs.declared.imports.ItemSig.{ItemSig}
pub use Rattle.wast_tree_nodes.specs.declared.imports.ItemKind.{ItemKind}
pub use Rattle.wast_tree_nodes.specs.declared.imports.ItemKind.TheVariants as kind
pub use Rattle.wast_tree_nodes.specs.declared.segments.Elem.{Elem}
pub use Rattle.wast_tree_nodes.specs.declared.segments.ElemKind.{ElemKind}
pub use Rattle.wast_tree_nodes.specs.declared.segments.ElemKind.TheVariants as elem
pub use Rattle.wast_tree_nodes.specs.declared.segments.ElemPayload.{ElemPayload}
pub use Rattle.wast_tree_nodes.specs.declared.segments.ElemPayload.TheVariants as payload
pub use Rattle.wast_tree_nodes.specs.declared.segments.Data.{Data}
pub use Rattle.wast_tree_nodes.specs.declared.segments.DataKind.{DataKind}
pub use Rattle.wast_tree_nodes.specs.declared.segments.DataKind.TheVariants as data_kind
pub use Rattle.wast_tree_nodes.specs.declared.segments.DataVal.{DataVal}
pub use Rattle.wast_tree_nodes.specs.declared.segments.DataVal.TheVariants as bytes
pub use Rattle.wast_tree_nodes.specs.declared.fields.InlineExport.{InlineExport}
pub use Rattle.wast_tree_nodes.specs.declared.fields.InlineImport.{InlineImport}
pub use Rattle.wast_tree_nodes.specs.declared.fields.Local.{Local}
pub use Rattle.wast_tree_nodes.specs.declared.fields.FuncKind.{FuncKind}
pub use Rattle.wast_tree_nodes.specs.declared.fields.FuncKind.TheVariants as func
pub use Rattle.wast_tree_nodes.specs.declared.fields.Func.{Func}
pub use Rattle.wast_tree_nodes.specs.declared.fields.Table.{Table}
pub use Rattle.wast_tree_nodes.specs.declared.fields.TableKind.{TableKind}
pub use Rattle.wast_tree_nodes.specs.declared.fields.TableKind.TheVariants as table
pub use Rattle.wast_tree_nodes.specs.declared.fields.Memory.{Memory}
pub use Rattle.wast_tree_nodes.specs.declared.fields.MemoryKind.{MemoryKind}
pub use Rattle.wast_tree_nodes.specs.declared.fields.MemoryKind.TheVariants as memory
pub use Rattle.wast_tree_nodes.specs.declared.fields.Global.{Global}
pub use Rattle.wast_tree_nodes.specs.declared.fields.GlobalKind.{GlobalKind}
pub use Rattle.wast_tree_nodes.specs.declared.fields.GlobalKind.TheVariants as global
pub use Rattle.wast_tree_nodes.specs.declared.fields.Tag.{Tag}
pub use Rattle.wast_tree_nodes.specs.declared.fields.TagKind.{TagKind}
pub use Rattle.wast_tree_nodes.specs.declared.fields.TagKind.TheVariants as tag_kind
pub use Rattle.wast_tree_nodes.specs.declared.fields.ExportKind.{ExportKind}
pub use Rattle.wast_tree_nodes.specs.declared.fields.ExportKind.TheVariants as export
pub use Rattle.wast_tree_nodes.specs.declared.fields.Export.{Export}
pub use Rattle.wast_tree_nodes.specs.declared.customs.Custom.{Custom}
pub use Rattle.wast_tree_nodes.specs.declared.customs.Custom.TheVariants as custom
pub use Rattle.wast_tree_nodes.specs.declared.customs.RawCustomSection.{RawCustomSection}
pub use Rattle.wast_tree_nodes.specs.declared.customs.CustomPlace.{CustomPlace}
pub use Rattle.wast_tree_nodes.specs.declared.customs.CustomPlace.TheVariants as custom_place
pub use Rattle.wast_tree_nodes.specs.declared.customs.CustomPlaceAnchor.{CustomPlaceAnchor}
pub use Rattle.wast_tree_nodes.specs.declared.customs.CustomPlaceAnchor.TheVariants as anchor
pub use Rattle.wast_tree_nodes.specs.declared.customs.Producers.{Producers}
pub use Rattle.wast_tree_nodes.specs.declared.customs.Dylink0.{Dylink0}
pub use Rattle.wast_tree_nodes.specs.declared.customs.Dylink0Subsection.{Dylink0Subsection}
pub use Rattle.wast_tree_nodes.specs.declared.customs.Dylink0Subsection.TheVariants as dylink
pub use Rattle.wast_tree_nodes.specs.declared.fields.ModuleField.{ModuleField}
pub use Rattle.wast_tree_nodes.specs.declared.fields.ModuleField.TheVariants as field
