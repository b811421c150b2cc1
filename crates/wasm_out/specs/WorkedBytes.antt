-- Sections with their bytes, which the definitions compute (src/worked_bytes.rt).
--
--   RunsOfLocals       the locals i32, i32 and i64 are 02 02 7f 01 7e
--   Spelled            a whole module of 52 bytes
use Rattle.std.specs.Prelude.{◌≡◌, ℕ, pos, negsuc, true, false, List, [], ◌∷◌, ◌++◌, Some, None, codes}
use Rattle.std.specs.List.{flat_map}
use Rattle.wasm_ops.specs.declared.entities.EntityType.TheVariants as entity
use Rattle.wasm_ops.specs.declared.ref_types.AbstractHeapType.TheVariants as heaps
use Rattle.wasm_ops.specs.declared.ref_types.HeapType.{HeapType}
use Rattle.wasm_ops.specs.declared.ref_types.HeapType.TheVariants as heap
use Rattle.wasm_ops.specs.declared.ref_types.RefType.{RefType}
use Rattle.wasm_ops.specs.declared.types.ValType.TheVariants as val
use Rattle.wasm_ops.specs.declared.types.ExportKind.TheVariants as kind
use Rattle.wasm_ops.specs.declared.types.CompositeInnerType.TheVariants as inner
use Rattle.wast_base.specs.declared.index_ops.IndexOp.TheVariants as op
use Rattle.wasm_ops.specs.ConstantInstrs.{i32_const_instr, ref_null_instr}
use Rattle.wasm_ops.specs.IndexInstrs.{index_instr}
use Rattle.wasm_ops.specs.Table.{Instr}
use Rattle.wasm_out.specs.Bodies.{locals}
use Rattle.wasm_out.specs.DataSegments.{Kept, Placed}
use Rattle.wasm_out.specs.ElementSegments.{ElementItems, Indices, Expressions, Passive, Declared, Active}
use Rattle.wasm_out.specs.Hints.{hints}
use Rattle.wasm_out.specs.Parts.{Types, Imports, Functions, Tables, Memories, Tags, Globals, Exports, Elements, Code, Data, Single, Custom, Listed, Part, part}
use Rattle.wasm_out.specs.Producers.{producers}
use Rattle.wasm_out.specs.Reads.{header, Reads}

-- Two runs of locals: two of i32, and one of i64.
abbrev pub RunsOfLocals : Type 0
RunsOfLocals = locals (val.I32 ∷ val.I32 ∷ val.I64 ∷ []) ≡ 0x02 ∷ 0x02 ∷ 0x7f ∷ 0x01 ∷ 0x7e ∷ []

-- (module (type $t (func)) (func $f (type $t) call $f) (export "a" (func $f))), with the names of the function and of its type
abbrev pub worked_parts : List Part
worked_parts =
    record { kind = Listed Types; items = Single (record { composite_type = record { inner = inner.Func (record { params = []; results = [] }); shared = false; descriptor = None; describes = None }; is_final = true; supertype_idxs = [] }) ∷ [] }
    ∷ record { kind = Listed Functions; items = 0 ∷ [] }
    ∷ record { kind = Listed Exports; items = record { name = codes "a"; kind = kind.Func; index = 0 } ∷ [] }
    ∷ record { kind = Listed Code; items = record { locals = []; instrs = index_instr op.Call 0 ∷ [] } ∷ [] }
    ∷ record { kind = Custom; items = record { name = codes "name"; bytes = 0x01 ∷ 0x04 ∷ 0x01 ∷ 0x00 ∷ 0x01 ∷ 0x66 ∷ 0x04 ∷ 0x04 ∷ 0x01 ∷ 0x00 ∷ 0x01 ∷ 0x74 ∷ [] } }
    ∷ []

-- The bytes of this module.
abbrev pub worked_bytes : List ℕ
worked_bytes = 0x00 ∷ 0x61 ∷ 0x73 ∷ 0x6d ∷ 0x01 ∷ 0x00 ∷ 0x00 ∷ 0x00
    ∷ 0x01 ∷ 0x04 ∷ 0x01 ∷ 0x60 ∷ 0x00 ∷ 0x00
    ∷ 0x03 ∷ 0x02 ∷ 0x01 ∷ 0x00
    ∷ 0x07 ∷ 0x05 ∷ 0x01 ∷ 0x01 ∷ 0x61 ∷ 0x00 ∷ 0x00
    ∷ 0x0a ∷ 0x06 ∷ 0x01 ∷ 0x04 ∷ 0x00 ∷ 0x10 ∷ 0x00 ∷ 0x0b
    ∷ 0x00 ∷ 0x11 ∷ 0x04 ∷ 0x6e ∷ 0x61 ∷ 0x6d ∷ 0x65 ∷ 0x01 ∷ 0x04 ∷ 0x01 ∷ 0x00 ∷ 0x01 ∷ 0x66 ∷ 0x04 ∷ 0x04 ∷ 0x01 ∷ 0x00 ∷ 0x01 ∷ 0x74 ∷ []

-- The definitions compute these bytes.
abbrev pub Spelled : Type 0
Spelled = header ++ flat_map part worked_parts ≡ worked_bytes

abbrev func_heap : HeapType
func_heap = heap.Abstract false heaps.Func

abbrev funcref : RefType
funcref = record { nullable = true; heap_type = func_heap }

-- a tag of type 0 imported as "m" "t"; 1 funcref, and i64 1 2 funcref filled with (ref.null func); 1 2 shared with pages of one byte; a tag of type 0; (mut i32) that is (i32.const -1) at first
abbrev pub worked_items : List Part
worked_items =
    record { kind = Listed Imports; items = record { «module» = codes "m"; name = codes "t"; entity = entity.Tag (record { func_type_idx = 0 }) } ∷ [] }
    ∷ record {
      kind = Listed Tables;
      items =
          record { ty = record { element_type = funcref; minimum = 1; maximum = None; table64 = false; shared = false }; init = None }
          ∷ record { ty = record { element_type = funcref; minimum = 1; maximum = Some 2; table64 = true; shared = false }; init = Some (ref_null_instr func_heap ∷ []) }
          ∷ [];
    }
    ∷ record { kind = Listed Memories; items = record { minimum = 1; maximum = Some 2; memory64 = false; shared = true; page_size_log2 = Some 0 } ∷ [] }
    ∷ record { kind = Listed Tags; items = record { func_type_idx = 0 } ∷ [] }
    ∷ record { kind = Listed Globals; items = record { ty = record { val_type = val.I32; mutable = true; shared = false }; init = i32_const_instr (negsuc 0) ∷ [] } ∷ [] }
    ∷ []

-- The bytes of these sections.
abbrev pub item_bytes : List ℕ
item_bytes = 0x02 ∷ 0x08 ∷ 0x01 ∷ 0x01 ∷ 0x6d ∷ 0x01 ∷ 0x74 ∷ 0x04 ∷ 0x00 ∷ 0x00
    ∷ 0x04 ∷ 0x0d ∷ 0x02 ∷ 0x70 ∷ 0x00 ∷ 0x01 ∷ 0x40 ∷ 0x00 ∷ 0x70 ∷ 0x05 ∷ 0x01 ∷ 0x02 ∷ 0xd0 ∷ 0x70 ∷ 0x0b
    ∷ 0x05 ∷ 0x05 ∷ 0x01 ∷ 0x0b ∷ 0x01 ∷ 0x02 ∷ 0x00
    ∷ 0x0d ∷ 0x03 ∷ 0x01 ∷ 0x00 ∷ 0x00
    ∷ 0x06 ∷ 0x06 ∷ 0x01 ∷ 0x7f ∷ 0x01 ∷ 0x41 ∷ 0x7f ∷ 0x0b ∷ []

-- The definitions compute these bytes.
abbrev pub ItemsSpelled : Type 0
ItemsSpelled = flat_map part worked_items ≡ item_bytes

-- The offsets and expressions of the segments: (i32.const 1), (ref.func 2), (ref.null extern).
abbrev one_const : List Instr
one_const = i32_const_instr (pos 1) ∷ []

abbrev second_func : List Instr
second_func = index_instr op.RefFunc 2 ∷ []

abbrev extern_heap : HeapType
extern_heap = heap.Abstract false heaps.Extern

abbrev functions : ElementItems
functions = Indices (0 ∷ 1 ∷ [])

-- Segments of functions 0 and 1, and segments of one expression. Each is active in table 0, passive, active in table
-- 3, and declarative.
abbrev pub worked_segments : List Part
worked_segments =
    record {
      kind = Listed Elements;
      items =
          record { mode = Active None one_const; items = functions }
          ∷ record { mode = Passive; items = functions }
          ∷ record { mode = Active (Some 3) one_const; items = functions }
          ∷ record { mode = Declared; items = functions }
          ∷ record { mode = Active None one_const; items = Expressions funcref (second_func ∷ []) }
          ∷ record { mode = Passive; items = Expressions (record { nullable = true; heap_type = extern_heap }) ((ref_null_instr extern_heap ∷ []) ∷ []) }
          ∷ record { mode = Active (Some 3) one_const; items = Expressions funcref (second_func ∷ []) }
          ∷ record { mode = Declared; items = Expressions (record { nullable = false; heap_type = func_heap }) (second_func ∷ []) }
          ∷ [];
    }
    ∷ record {
      kind = Listed Data;
      items =
          record { mode = Placed 0 one_const; bytes = codes "ab" }
          ∷ record { mode = Kept; bytes = codes "x" }
          ∷ record { mode = Placed 1 one_const; bytes = codes "z" }
          ∷ [];
    }
    ∷ []

-- The bytes of these segments.
abbrev pub segments_in_bytes : List ℕ
segments_in_bytes = 0x09 ∷ 0x3a ∷ 0x08
    ∷ 0x00 ∷ 0x41 ∷ 0x01 ∷ 0x0b ∷ 0x02 ∷ 0x00 ∷ 0x01
    ∷ 0x01 ∷ 0x00 ∷ 0x02 ∷ 0x00 ∷ 0x01
    ∷ 0x02 ∷ 0x03 ∷ 0x41 ∷ 0x01 ∷ 0x0b ∷ 0x00 ∷ 0x02 ∷ 0x00 ∷ 0x01
    ∷ 0x03 ∷ 0x00 ∷ 0x02 ∷ 0x00 ∷ 0x01
    ∷ 0x04 ∷ 0x41 ∷ 0x01 ∷ 0x0b ∷ 0x01 ∷ 0xd2 ∷ 0x02 ∷ 0x0b
    ∷ 0x05 ∷ 0x6f ∷ 0x01 ∷ 0xd0 ∷ 0x6f ∷ 0x0b
    ∷ 0x06 ∷ 0x03 ∷ 0x41 ∷ 0x01 ∷ 0x0b ∷ 0x70 ∷ 0x01 ∷ 0xd2 ∷ 0x02 ∷ 0x0b
    ∷ 0x07 ∷ 0x64 ∷ 0x70 ∷ 0x01 ∷ 0xd2 ∷ 0x02 ∷ 0x0b
    ∷ 0x0b ∷ 0x12 ∷ 0x03
    ∷ 0x00 ∷ 0x41 ∷ 0x01 ∷ 0x0b ∷ 0x02 ∷ 0x61 ∷ 0x62
    ∷ 0x01 ∷ 0x01 ∷ 0x78
    ∷ 0x02 ∷ 0x01 ∷ 0x41 ∷ 0x01 ∷ 0x0b ∷ 0x01 ∷ 0x7a ∷ []

-- The definitions compute these bytes.
abbrev pub SegmentsSpelled : Type 0
SegmentsSpelled = flat_map part worked_segments ≡ segments_in_bytes

-- A memory of 64 bits whose minimum has ten bytes: it is 2^64, which is out of range.
abbrev pub wide_bytes : List ℕ
wide_bytes = 0x00 ∷ 0x61 ∷ 0x73 ∷ 0x6d ∷ 0x01 ∷ 0x00 ∷ 0x00 ∷ 0x00
    ∷ 0x05 ∷ 0x0c ∷ 0x01 ∷ 0x04 ∷ 0x80 ∷ 0x80 ∷ 0x80 ∷ 0x80 ∷ 0x80 ∷ 0x80 ∷ 0x80 ∷ 0x80 ∷ 0x80 ∷ 0x02 ∷ []

-- These bytes are not read as a module.
abbrev pub IsNoModule : Type 0
IsNoModule = (parts : List Part) → Reads wide_bytes parts → ⊥

-- The field (@producers (language "R" "1")), as the bytes after the name of the section.
abbrev pub ProducersSpelled : Type 0
ProducersSpelled =
    (producers ((codes "language", (codes "R", codes "1") ∷ []) ∷ [])).bytes
    ≡ 0x01 ∷ 0x08 ∷ 0x6c ∷ 0x61 ∷ 0x6e ∷ 0x67 ∷ 0x75 ∷ 0x61 ∷ 0x67 ∷ 0x65 ∷ 0x01 ∷ 0x01 ∷ 0x52 ∷ 0x01 ∷ 0x31 ∷ []

-- Branch hints, as the bytes after the name of the section. Function 0 has a likely hint at offset 5. Function 3 has
-- two, and the offset of the second has two bytes.
abbrev pub HintsSpelled : Type 0
HintsSpelled =
    (hints ((0, record { branch_func_offset = 5; branch_hint_value = 1 } ∷ [])
    ∷ (3, record { branch_func_offset = 2; branch_hint_value = 0 } ∷ record { branch_func_offset = 200; branch_hint_value = 1 } ∷ [])
    ∷ [])).bytes
    ≡ 0x02 ∷ 0x00 ∷ 0x01 ∷ 0x05 ∷ 0x01 ∷ 0x01 ∷ 0x03 ∷ 0x02 ∷ 0x02 ∷ 0x01 ∷ 0x00 ∷ 0xc8 ∷ 0x01 ∷ 0x01 ∷ 0x01 ∷ []
