-- Inline data and elements: their segments, and the memory and table that hold them (text format: memories, tables;
-- abbreviations).
--
-- The memory has the fewest pages that hold the bytes, and this is also its maximum. The table has as many elements as
-- are inline.
--
--   (memory (data "abc"))              1 page of 65,536 bytes, at most 1
--   (memory (pagesize 2) (data "abc")) 2 pages of 2 bytes, at most 2
--   (table funcref (elem $f $f))       2 elements, at most 2
use Rattle.std.specs.Prelude.{ℕ, pos, ◌^◌, nat_lt, not, length, Bool, true, false, List, [], ◌∷◌, Option, Some, None}
use Rattle.std.specs.Int.{div_ceil}
use Rattle.wast_tree_nodes.specs.DataBytes.{all_bytes}
use Rattle.wast_expand_inline.specs.Tree.{Span, Index, RefType, Instruction, Expression, Limits, TableType, MemoryType, ElemPayload, DataVal, TableKind, MemoryKind, ModuleField}
use Rattle.wast_expand_inline.specs.Tree.instr
use Rattle.wast_expand_inline.specs.Tree.elem
use Rattle.wast_expand_inline.specs.Tree.payload
use Rattle.wast_expand_inline.specs.Tree.data_kind
use Rattle.wast_expand_inline.specs.Tree.table
use Rattle.wast_expand_inline.specs.Tree.memory
use Rattle.wast_expand_inline.specs.Tree.field

-- The instruction for offset 0: `i64.const 0` if indices have 64 bits, else `i32.const 0`.
abbrev pub zero_offset : Bool → Instruction
zero_offset false = instr.i32_const (pos 0)
zero_offset true = instr.i64_const (pos 0)

-- the offset expression of the segment
abbrev pub at_zero : Bool → Expression
at_zero is64 = record { instrs = zero_offset is64 ∷ []; branch_hints = [] }

-- limits whose minimum and maximum are the same
abbrev pub exact_limits : Bool → ℕ → Limits
exact_limits is64 n = record { is64 = is64; min = n; max = Some n }

-- how many bytes a page has: 65,536 if there is no exponent
abbrev pub page_size : Option ℕ → ℕ
page_size None = 65536
page_size (Some exponent) = 2 ^ exponent

-- how many pages hold the bytes
abbrev pub page_count : List DataVal → Option ℕ → ℕ
page_count pieces exponent = div_ceil (length (all_bytes pieces)) (page_size exponent)

-- the type of a memory that is exactly large enough for the bytes
abbrev pub filled_memory_type : Bool → List DataVal → Option ℕ → MemoryType
filled_memory_type is64 pieces exponent = record { limits = exact_limits is64 (page_count pieces exponent); shared = false; page_size_log2 = exponent }

-- the number of inline elements
abbrev pub element_count : ElemPayload → ℕ
element_count (payload.Indices is) = length is
element_count (payload.Exprs ty es) = length es

-- the type of a table that is exactly large enough for the elements
abbrev pub filled_table_type : RefType → Bool → Bool → ElemPayload → TableType
filled_table_type ty is64 shared p = record { limits = exact_limits is64 (element_count p); elem = ty; shared = shared }

-- The data segment: active, at the span of the field, without id or name, for the memory of the field.
abbrev pub data_into : Span → Index → Bool → List DataVal → ModuleField
data_into span item is64 pieces = field.Data (record { span = span; id = None; name = None; kind = data_kind.Active item (at_zero is64); bytes = pieces })

-- the element segment, likewise
abbrev pub elem_into : Span → Index → Bool → ElemPayload → ModuleField
elem_into span item is64 p = field.Elem (record { span = span; id = None; name = None; kind = elem.Active (Some item) (at_zero is64); payload = p })

-- whether a memory has inline data
abbrev pub has_bytes : MemoryKind → Bool
has_bytes (memory.Import source ty) = false
has_bytes (memory.Normal ty) = false
has_bytes (memory.Inline is64 pieces exponent) = true

-- whether a table has inline elements
abbrev pub has_elements : TableKind → Bool
has_elements (table.Import source ty) = false
has_elements (table.Normal ty init) = false
has_elements (table.Inline ty is64 shared p) = true

-- whether the pieces have 2^32 bytes or more
abbrev pub are_too_many : List DataVal → Bool
are_too_many pieces = not (nat_lt (length (all_bytes pieces)) (2 ^ 32))

-- whether the inline data of a memory has 2^32 bytes or more
abbrev pub overflows_kind : MemoryKind → Bool
overflows_kind (memory.Import source ty) = false
overflows_kind (memory.Normal ty) = false
overflows_kind (memory.Inline is64 pieces exponent) = are_too_many pieces

-- whether a field is a memory with 2^32 bytes of inline data or more
abbrev pub has_oversized_data : ModuleField → Bool
has_oversized_data (field.Memory m) = overflows_kind m.kind
has_oversized_data x = false
