-- Example modules with imports, tables, memories, globals, start functions and segments, and what they mean, as the
-- prover computes it. They hold for texts at any addresses.
use Rattle.std.specs.Prelude.{ℕ, negsuc, true, false, List, [], ◌∷◌, Some, None, codes, pos}
use Rattle.wast_tree_nodes.specs.WorkedModules.{Address, text, place, id_at, by_number, plain_global_type, plain_memory}
use Rattle.wast_core.specs.WorkedMeanings.{HasBytes, first_type, first_func}
use Rattle.wast_core.specs.Tree.{RefType, TableType, ItemKind, Expression, Instruction, ElemKind, ElemPayload, DataKind, ModuleField}
use Rattle.wast_core.specs.Tree.heap
use Rattle.wast_core.specs.Tree.abstract
use Rattle.wast_core.specs.Tree.value as val
use Rattle.wast_core.specs.Tree.instr
use Rattle.wast_core.specs.Tree.import_items
use Rattle.wast_core.specs.Tree.kind
use Rattle.wast_core.specs.Tree.table
use Rattle.wast_core.specs.Tree.global
use Rattle.wast_core.specs.Tree.elem
use Rattle.wast_core.specs.Tree.payload
use Rattle.wast_core.specs.Tree.data_kind
use Rattle.wast_core.specs.Tree.bytes
use Rattle.wast_core.specs.Tree.field

-- `funcref`
abbrev pub funcref : RefType
funcref = record { nullable = true; heap = heap.Abstract false abstract.Func }

-- `1 funcref`
abbrev pub one_funcref : TableType
one_funcref = record { limits = record { is64 = false; min = 1; max = None }; elem = funcref; shared = false }

-- A constant expression with one instruction.
abbrev pub one_instr : Instruction → Expression
one_instr i = record { instrs = i ∷ []; branch_hints = [] }

-- `(import "e" ".." ..)`
abbrev pub import_of : Address → Address → List ℕ → ItemKind → ModuleField
import_of a b name k = field.Import (record { span = place 9; items = import_items.Single (text a (codes "e")) (text b name) (record { span = place 17; id = None; name = None; kind = k }) })

-- `(elem ..)`
abbrev pub elem_of : ElemKind → ElemPayload → ModuleField
elem_of k q = field.Elem (record { span = place 40; id = None; name = None; kind = k; payload = q })

-- `(data ..)`
abbrev pub data_of : Address → DataKind → List ℕ → ModuleField
data_of a k letters = field.Data (record { span = place 60; id = None; name = None; kind = k; bytes = bytes.«String» (text a letters) ∷ [] })

-- `(module (import "e" "t" (table 1 funcref)) (import "e" "m" (memory 1 2)) (import "e" "g" (global i32)))`
abbrev pub ImportedEntities : Type 0
ImportedEntities = (a b c d e f : Address) →
    HasBytes (import_of a b (codes "t") (kind.Table one_funcref) ∷ import_of c d (codes "m") (kind.Memory (record { limits = record { is64 = false; min = 1; max = Some 2 }; shared = false; page_size_log2 = None })) ∷ import_of e f (codes "g") (kind.Global plain_global_type) ∷ [])
    (0x02 ∷ 0x18 ∷ 0x03 ∷ 0x01 ∷ 0x65 ∷ 0x01 ∷ 0x74 ∷ 0x01 ∷ 0x70 ∷ 0x00 ∷ 0x01 ∷ 0x01 ∷ 0x65 ∷ 0x01 ∷ 0x6d ∷ 0x02 ∷ 0x01 ∷ 0x01 ∷ 0x02 ∷ 0x01 ∷ 0x65 ∷ 0x01 ∷ 0x67 ∷ 0x03 ∷ 0x7f ∷ 0x00 ∷ [])

-- `(module (memory 1) (global $g (mut i64) (i64.const -1)) (data "x") (data (i32.const 8) "yz"))`: a passive data
-- segment, and an active one in memory 0. The global has a name.
abbrev pub MemoryAndData : Type 0
MemoryAndData = (a b c : Address) →
    HasBytes
    (field.Memory (plain_memory None 8)
    ∷ field.Global (record { span = place 20; id = Some (id_at a (codes "g") 27); name = None; exports = record { names = [] }; ty = record { ty = val.I64; mutable = true; shared = false }; kind = global.Inline (one_instr (instr.i64_const (negsuc 0))) })
    ∷ data_of b data_kind.Passive (codes "x")
    ∷ data_of c (data_kind.Active (by_number 0 66) (one_instr (instr.i32_const (pos 8)))) (codes "yz")
    ∷ [])
    (0x05 ∷ 0x03 ∷ 0x01 ∷ 0x00 ∷ 0x01 ∷ 0x06 ∷ 0x06 ∷ 0x01 ∷ 0x7e ∷ 0x01 ∷ 0x42 ∷ 0x7f ∷ 0x0b ∷ 0x0b ∷ 0x0b ∷ 0x02 ∷ 0x01 ∷ 0x01 ∷ 0x78 ∷ 0x00 ∷ 0x41 ∷ 0x08 ∷ 0x0b ∷ 0x02 ∷ 0x79 ∷ 0x7a
    ∷ 0x00 ∷ 0x0b ∷ 0x04 ∷ 0x6e ∷ 0x61 ∷ 0x6d ∷ 0x65 ∷ 0x07 ∷ 0x04 ∷ 0x01 ∷ 0x00 ∷ 0x01 ∷ 0x67 ∷ [])

-- `(module (table 1 funcref) (elem declare func) (elem funcref (ref.null func)))`
abbrev pub TableAndElements : Type 0
TableAndElements =
    HasBytes
    (field.Table (record { span = place 9; id = None; name = None; exports = record { names = [] }; kind = table.Normal one_funcref None })
    ∷ elem_of elem.Declared (payload.Indices [])
    ∷ elem_of elem.Passive (payload.Exprs funcref (one_instr (instr.ref_null (heap.Abstract false abstract.Func)) ∷ []))
    ∷ [])
    (0x04 ∷ 0x04 ∷ 0x01 ∷ 0x70 ∷ 0x00 ∷ 0x01 ∷ 0x09 ∷ 0x0a ∷ 0x02 ∷ 0x03 ∷ 0x00 ∷ 0x00 ∷ 0x05 ∷ 0x70 ∷ 0x01 ∷ 0xd0 ∷ 0x70 ∷ 0x0b ∷ [])

-- `(module (type (func)) (func (type 0)) (start 0) (start 0))`: each start field is a section of its own.
abbrev pub TwoStarts : Type 0
TwoStarts = HasBytes (first_type ∷ first_func ∷ field.Start (by_number 0 46) ∷ field.Start (by_number 0 56) ∷ [])
    (0x01 ∷ 0x04 ∷ 0x01 ∷ 0x60 ∷ 0x00 ∷ 0x00 ∷ 0x03 ∷ 0x02 ∷ 0x01 ∷ 0x00 ∷ 0x08 ∷ 0x01 ∷ 0x00 ∷ 0x08 ∷ 0x01 ∷ 0x00 ∷ 0x0a ∷ 0x04 ∷ 0x01 ∷ 0x02 ∷ 0x00 ∷ 0x0b ∷ [])
