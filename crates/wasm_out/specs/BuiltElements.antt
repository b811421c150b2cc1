-- Element segments with any type of offset, as `ElementSegment` and `ElementSection` have them (binary format:
-- element section).
--
-- The offset is given by a function to bytes, because callers keep expressions in types of their own. For example,
-- `Active None` with the offset bytes 41 01 0b and the functions 0 and 1 is 00 41 01 0b 02 00 01.
use Rattle.std.specs.Prelude.{ℕ, Bool, true, List, [], ◌∷◌, ◌++◌, length, IsTrue}
use Rattle.wasm_ops.specs.Leb128.{unsigned}
use Rattle.wasm_ops.specs.Spelling.{InRangeU32, vec, InRangeVec, ref_type}
use Rattle.wasm_out.specs.declared.elements.ElementKind.{ElementKind}
use Rattle.wasm_out.specs.declared.elements.ElementKind.TheVariants as kind
use Rattle.wasm_out.specs.declared.elements.SegmentMode.{SegmentMode}
use Rattle.wasm_out.specs.declared.elements.SegmentMode.TheVariants as mode
use Rattle.wasm_out.specs.declared.elements.Elements.{Elements}
use Rattle.wasm_out.specs.declared.elements.Elements.TheVariants as elements
use Rattle.wasm_out.specs.ElementSegments.{passive_bytes, declared_bytes, active_bytes, table_index, has_active_form}

-- The bytes of a segment, from the bytes of its offset.
abbrev pub segment_bytes : {O : Type 0} → (O → List ℕ) → SegmentMode O → ElementKind → List ℕ → List ℕ
segment_bytes spell mode.Passive kind list = passive_bytes kind list
segment_bytes spell mode.Declared kind list = declared_bytes kind list
segment_bytes spell (mode.Active table offset) kind list = active_bytes table (spell offset) kind list

-- The index of the table and the offset are in range.
abbrev pub InRangeMode : {O : Type 0} → (O → Type 0) → SegmentMode O → Type 0
InRangeMode InRange mode.Passive = Unit {0}
InRangeMode InRange mode.Declared = Unit {0}
InRangeMode InRange (mode.Active table offset) = (table_index table).in_range × InRange offset

-- Whether the offset can be encoded.
abbrev pub is_ready_mode : {O : Type 0} → (O → Bool) → SegmentMode O → Bool
is_ready_mode is_ready mode.Passive = true
is_ready_mode is_ready mode.Declared = true
is_ready_mode is_ready (mode.Active table offset) = is_ready offset

-- Whether there is a form for the mode and the kind: expressions without a table index must have type funcref.
abbrev pub is_form : {O : Type 0} → SegmentMode O → ElementKind → Bool
is_form mode.Passive kind = true
is_form mode.Declared kind = true
is_form (mode.Active table offset) kind = has_active_form table kind

-- The instructions of an expression, then its end.
abbrev pub ended : List ℕ → List ℕ
ended bytes = bytes ++ 0x0b ∷ []

-- The kind of the elements that a caller adds.
abbrev pub element_kind : Elements → ElementKind
element_kind (elements.Functions functions) = kind.Functions
element_kind (elements.Expressions ty expressions) = kind.Expressions ty

-- The bytes of the elements, after their number.
abbrev pub listed_in : Elements → List ℕ
listed_in (elements.Functions functions) = vec unsigned functions.items
listed_in (elements.Expressions ty expressions) = vec ended expressions.items

-- The number of elements, and the numbers in them, are in range.
abbrev pub InRangeElements : Elements → Type 0
InRangeElements (elements.Functions functions) = InRangeVec InRangeU32 functions.items
InRangeElements (elements.Expressions ty expressions) = (ref_type ty).in_range × InRangeU32 (length expressions.items)

-- The encoder supports the type of the expressions.
abbrev pub AreElements : Elements → Type 0
AreElements (elements.Functions functions) = Unit {0}
AreElements (elements.Expressions ty expressions) = IsTrue (ref_type ty).is_covered
