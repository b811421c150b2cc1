-- How the values that the code passes to section builders correspond to `FieldEntries` (binary format: element and data
-- sections).
--
--   (elem (table 1) (i32.const 8) func 2)     mode: table 1 and the offset `i32.const 8`; items: the function index 2
use Rattle.std.specs.Prelude.{◌≡◌, ℕ, List, map, All}
use Rattle.wasm_ops.specs.ConstExprs.{expression}
use Rattle.wasm_ops.specs.Table.{Instr, instrs}
use Rattle.wasm_out.specs.declared.elements.Elements.{Elements}
use Rattle.wasm_out.specs.BuiltElements.{element_kind, listed_in, InRangeElements, AreElements}
use Rattle.wasm_out.specs.DataSegments.{DataMode, Kept, Placed}
use Rattle.wasm_out.specs.ElementSegments.{ElementMode, Passive, Declared, Active, kind_of, element_list, element_type}
use Rattle.wasm_out.specs.declared.elements.SegmentMode.{SegmentMode}
use Rattle.wasm_out.specs.declared.elements.SegmentMode.TheVariants as mode
use Rattle.wasm_out.specs.declared.data_segments.DataMode as segments
use Rattle.wasm_out.specs.declared.data_segments.DataMode.TheVariants as data_mode
use Rattle.wast_core_conv.specs.Tree.{Expression, ElemPayload}
use Rattle.wast_core_conv.specs.FieldEntries.{as_element_items}
use Rattle.wast_core_conv.specs.Values.{as_expression}

-- The list is the bytes of these constant expressions, and each instruction is in range.
pub record AreExpressions (es : List Expression) (made : List (List ℕ)) : Type 0 where
  pub value : made ≡ map (λ e. instrs (as_expression e)) es
  pub in_range : All (λ e. (expression (as_expression e)).in_range) es

-- The elements are those of the payload: the same kind and the same bytes, and one is in range if the other is.
pub record ArePayload (p : ElemPayload) (e : Elements) : Type 0 where
  pub kind : element_kind e ≡ kind_of (as_element_items p)
  pub list : listed_in e ≡ (element_list (as_element_items p)).bytes
  pub ready : AreElements e
  pub in_range : InRangeElements e → (element_type (kind_of (as_element_items p))).in_range × (element_list (as_element_items p)).in_range
  pub built : (element_type (kind_of (as_element_items p))).in_range × (element_list (as_element_items p)).in_range → InRangeElements e

-- The mode of an element segment, given the instructions of its offset.
abbrev pub seen_mode : {O : Type 0} → (O → List Instr) → SegmentMode O → ElementMode
seen_mode offset_of mode.Passive = Passive
seen_mode offset_of mode.Declared = Declared
seen_mode offset_of (mode.Active table offset) = Active table (offset_of offset)

-- The mode of a data segment, given the instructions of its offset.
abbrev pub seen_data : {O : Type 0} → (O → List Instr) → segments.DataMode O → DataMode
seen_data offset_of data_mode.Passive = Kept
seen_data offset_of (data_mode.Active memory offset) = Placed memory (offset_of offset)
