-- Function bodies: locals as maximal runs of equal types, instructions, and an end (binary format: code section).
--
-- The specification permits any runs of locals. They are maximal here, so that each body has one encoding, as in the
-- `wast` crate.
--
--   local_runs [i32, i32, i64]       [(2, i32), (1, i64)]
--   locals [i32, i32, i64]           02 02 7f 01 7e
use Rattle.std.specs.Prelude.{◌≡◌, ◌==◌, ◌&&◌, ◌+◌, ℕ, Bool, true, false, List, [], ◌∷◌, ◌++◌, All}
use Rattle.wasm_ops.specs.ConstExprs.{expression}
use Rattle.wasm_ops.specs.declared.ref_types.HeapType.{HeapType}
use Rattle.wasm_ops.specs.declared.ref_types.HeapType.TheVariants as heap
use Rattle.wasm_ops.specs.declared.ref_types.RefType.{RefType}
use Rattle.wasm_ops.specs.declared.types.ValType.{ValType}
use Rattle.wasm_ops.specs.declared.types.ValType.TheVariants as val
use Rattle.wasm_ops.specs.Spelling.{InRangeVec, Encoding, Spellable, u32, seq, list_of, abstract_byte, val_type}
use Rattle.wasm_ops.specs.Table.{Instr, IsInstr}

-- A body: the types of its locals one by one, and its instructions without the final `end`.
pub record Body : Type 0 where
  pub locals : List ValType
  pub instrs : List Instr

-- A run: the number of locals, and their type.
abbrev pub LocalRun : Type 0
LocalRun = ℕ × ValType

-- Whether two flags are equal.
abbrev pub is_same_flag : Bool → Bool → Bool
is_same_flag true true = true
is_same_flag false false = true
is_same_flag a b = false

-- Whether two heap types are equal: the same form, and the same numbers.
abbrev pub is_same_heap_type : HeapType → HeapType → Bool
is_same_heap_type (heap.Abstract s a) (heap.Abstract t b) = is_same_flag s t && (abstract_byte a == abstract_byte b)
is_same_heap_type (heap.Concrete m) (heap.Concrete n) = m == n
is_same_heap_type (heap.Exact m) (heap.Exact n) = m == n
is_same_heap_type h k = false

-- Whether two reference types are equal.
abbrev pub is_same_ref_type : RefType → RefType → Bool
is_same_ref_type r s = is_same_flag r.nullable s.nullable && is_same_heap_type r.heap_type s.heap_type

-- Whether two value types are equal.
abbrev pub is_same_type : ValType → ValType → Bool
is_same_type val.I32 val.I32 = true
is_same_type val.I64 val.I64 = true
is_same_type val.F32 val.F32 = true
is_same_type val.F64 val.F64 = true
is_same_type val.V128 val.V128 = true
is_same_type (val.Ref r) (val.Ref s) = is_same_ref_type r s
is_same_type t u = false

-- Runs with one more local at the start, by whether it has the type of the first run.
abbrev pub in_front : Bool → ValType → LocalRun → List LocalRun → List LocalRun
in_front true t r rs = (r.0 + 1, t) ∷ rs
in_front false t r rs = (1, t) ∷ (r ∷ rs)

-- Runs with one more local at the start.
abbrev pub with_local : ValType → List LocalRun → List LocalRun
with_local t [] = (1, t) ∷ []
with_local t (r ∷ rs) = in_front (is_same_type t r.1) t r rs

-- The maximal runs of equal types in a list.
abbrev pub local_runs : List ValType → List LocalRun
local_runs [] = []
local_runs (t ∷ ts) = with_local t (local_runs ts)

-- A run: the number of locals, and their type.
abbrev pub local_run : LocalRun → Encoding
local_run r = seq (u32 r.0) (val_type r.1)

-- The bytes of the locals of a body, as runs.
abbrev pub locals : List ValType → List ℕ
locals types = (list_of local_run (local_runs types)).bytes

-- A body, without its length: its locals as runs, its instructions and an `end`. There are fewer than 2^32 locals.
abbrev pub body_content : Body → Encoding
body_content b = record { bytes = locals b.locals ++ (expression b.instrs).bytes; in_range = (list_of val_type b.locals).in_range × (expression b.instrs).in_range; is_covered = (list_of val_type b.locals).is_covered && (expression b.instrs).is_covered }

-- In addition the encoder supports the types of the locals, and the instructions are in the opcode table.
pub record IsSpellableContent (b : Body) : Type 0 where
  pub locals : InRangeVec (λ t. Spellable (val_type t)) b.locals
  pub instrs : All IsInstr b.instrs

-- The bytes are the encoding of a body.
pub record SpellsBody (bytes : List ℕ) : Type 0 where
  pub body : Body
  pub in_range : IsSpellableContent body
  pub spelled : bytes ≡ (body_content body).bytes
