-- Element segments (binary format: element section).
--
-- The first byte tells whether a segment is passive, declarative or active, whether it has a table, and whether its elements
-- are functions or expressions. For example (elem func 3) is 01 00 01 03: passive, functions, one of them, the function 3.
use Rattle.std.specs.Prelude.{◌==◌, ◌&&◌, ℕ, Bool, true, false, not, Option, Some, None, List, [], ◌∷◌, ◌++◌}
use Rattle.wasm_ops.specs.ConstExprs.{expression}
use Rattle.wasm_ops.specs.Leb128.{unsigned}
use Rattle.wasm_ops.specs.Spelling.{Encoding, fixed, u32, respelled, seq, list_of, only_if, always, abstract_byte, ref_type}
use Rattle.wasm_ops.specs.Table.{Instr}
use Rattle.wasm_ops.specs.declared.ref_types.HeapType.{HeapType}
use Rattle.wasm_ops.specs.declared.ref_types.HeapType.TheVariants as heap
use Rattle.wasm_ops.specs.declared.ref_types.AbstractHeapType.TheVariants as heaps
use Rattle.wasm_ops.specs.declared.ref_types.RefType.{RefType}
use Rattle.wasm_out.specs.declared.elements.ElementKind.{ElementKind}
use Rattle.wasm_out.specs.declared.elements.ElementKind.TheVariants as kind

-- The elements: functions, or expressions of a reference type.
pub data ElementItems : Type 0 where
  Indices : List ℕ → ElementItems
  Expressions : RefType → List (List Instr) → ElementItems

-- Where the elements are. An active segment has an offset, and a table if one is written.
pub data ElementMode : Type 0 where
  Passive : ElementMode
  Declared : ElementMode
  Active : Option ℕ → List Instr → ElementMode

-- An element segment.
pub record ElementEntry : Type 0 where
  pub mode : ElementMode
  pub items : ElementItems

-- The kind of the elements.
abbrev pub kind_of : ElementItems → ElementKind
kind_of (Indices functions) = kind.Functions
kind_of (Expressions ty expressions) = kind.Expressions ty

-- The index of a table, if it is written.
abbrev pub table_index : Option ℕ → Encoding
table_index None = fixed []
table_index (Some table) = u32 table

-- The list of the elements.
abbrev pub element_list : ElementItems → Encoding
element_list (Indices functions) = always (list_of u32 functions)
element_list (Expressions ty expressions) = list_of expression expressions

-- The type of the elements, if they have one.
abbrev pub element_type : ElementKind → Encoding
element_type kind.Functions = fixed []
element_type (kind.Expressions ty) = ref_type ty

-- The table and the offset of a segment.
abbrev pub element_place : ElementMode → Encoding
element_place Passive = fixed []
element_place Declared = fixed []
element_place (Active table offset) = seq (always (table_index table)) (expression offset)

-- The bytes of a passive segment, by the kind of its elements and the bytes of their list.
abbrev pub passive_bytes : ElementKind → List ℕ → List ℕ
passive_bytes kind.Functions list = 0x01 ∷ 0x00 ∷ list
passive_bytes (kind.Expressions ty) list = 0x05 ∷ ((ref_type ty).bytes ++ list)

-- The bytes of a declarative segment.
abbrev pub declared_bytes : ElementKind → List ℕ → List ℕ
declared_bytes kind.Functions list = 0x03 ∷ 0x00 ∷ list
declared_bytes (kind.Expressions ty) list = 0x07 ∷ ((ref_type ty).bytes ++ list)

-- The bytes of an active segment, by its table, the bytes of its offset, and the same.
abbrev pub active_bytes : Option ℕ → List ℕ → ElementKind → List ℕ → List ℕ
active_bytes None offset kind.Functions list = 0x00 ∷ (offset ++ list)
active_bytes (Some table) offset kind.Functions list = 0x02 ∷ (unsigned table ++ (offset ++ 0x00 ∷ list))
active_bytes None offset (kind.Expressions ty) list = 0x04 ∷ (offset ++ list)
active_bytes (Some table) offset (kind.Expressions ty) list = 0x06 ∷ (unsigned table ++ (offset ++ ((ref_type ty).bytes ++ list)))

-- The bytes of a segment.
abbrev pub element_bytes : ElementMode → ElementKind → List ℕ → List ℕ
element_bytes Passive kind list = passive_bytes kind list
element_bytes Declared kind list = declared_bytes kind list
element_bytes (Active table offset) kind list = active_bytes table (expression offset).bytes kind list

-- Whether a heap type is `func`.
abbrev pub is_func : HeapType → Bool
is_func (heap.Abstract shared ty) = not shared && (abstract_byte ty == abstract_byte heaps.Func)
is_func (heap.Concrete index) = false
is_func (heap.Exact index) = false

-- Whether a reference type is `funcref`.
abbrev pub is_funcref : RefType → Bool
is_funcref r = r.nullable && is_func r.heap_type

-- Whether an active segment has a form for this kind of elements. Without a table it has no bytes for their type, so that
-- the elements must be functions, or expressions of type `funcref`.
abbrev pub has_active_form : Option ℕ → ElementKind → Bool
has_active_form (Some table) kind = true
has_active_form None kind.Functions = true
has_active_form None (kind.Expressions ty) = is_funcref ty

-- Whether a segment has a form for this kind of elements.
abbrev pub has_form : ElementMode → ElementKind → Bool
has_form Passive kind = true
has_form Declared kind = true
has_form (Active table offset) kind = has_active_form table kind

-- An element segment. It is supported if there is a form for its elements, and they and their type are supported.
abbrev pub element_entry : ElementEntry → Encoding
element_entry e = only_if (has_form e.mode (kind_of e.items)) (respelled (λ _. element_bytes e.mode (kind_of e.items) (element_list e.items).bytes) (seq (element_place e.mode) (seq (element_type (kind_of e.items)) (element_list e.items))))

-- The constant expression of the mode of a segment: its offset.
abbrev pub place_expressions : ElementMode → List (List Instr)
place_expressions Passive = []
place_expressions Declared = []
place_expressions (Active table offset) = offset ∷ []

-- The constant expressions among the elements.
abbrev pub item_expressions : ElementItems → List (List Instr)
item_expressions (Indices functions) = []
item_expressions (Expressions ty expressions) = expressions
