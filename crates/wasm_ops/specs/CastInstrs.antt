-- Tests and casts of references, branches on casts, and fences: the row of the table that each of the code stands for (binary format, reference instructions).
use Rattle.std.specs.Prelude.{ℕ, ◌+◌, ◌*◌, Bool, [], ◌∷◌}
use Rattle.wasm_ops.specs.Entities.{bit}
use Rattle.wasm_ops.specs.Opcodes.{opcode_of}
use Rattle.wasm_ops.specs.Table.{Index, Heap, Nullables, Order, Instr}
use Rattle.wasm_ops.specs.declared.casts.CastOp.{CastOp}
use Rattle.wasm_ops.specs.declared.casts.CastOp.TheVariants as cast
use Rattle.wasm_ops.specs.declared.casts.BrCastOp.{BrCastOp}
use Rattle.wasm_ops.specs.declared.casts.BrCastOp.TheVariants as branch
use Rattle.wasm_ops.specs.declared.memargs.Ordering.{Ordering}
use Rattle.wasm_ops.specs.declared.ref_types.RefType.{RefType}

-- the key of a test or a cast, by whether a reference may be null
abbrev pub cast_key : CastOp → Bool → ℕ
cast_key cast.Test nullable = 0xfb0014 + bit nullable
cast_key cast.Cast nullable = 0xfb0016 + bit nullable

-- one to a type
abbrev pub cast_instr : CastOp → RefType → Instr
cast_instr op ty = record { row = record { opcode = opcode_of (cast_key op ty.nullable); kinds = Heap ∷ [] }; numbers = (ty.heap_type, tt) }

-- the key of a branch on a cast
abbrev pub br_cast_key : BrCastOp → ℕ
br_cast_key branch.Succeeds = 0xfb0018
br_cast_key branch.Fails = 0xfb0019

-- one to a label, from a type to another
abbrev pub br_cast_instr : BrCastOp → ℕ → RefType → RefType → Instr
br_cast_instr op label from to =
    record { row = record { opcode = opcode_of (br_cast_key op); kinds = Nullables ∷ Index ∷ Heap ∷ Heap ∷ [] }; numbers = ((from.nullable, to.nullable), (label, (from.heap_type, (to.heap_type, tt)))) }

-- 1 where references to the first may be null, and 2 more where those to the second may be
abbrev pub nullables : Bool → Bool → ℕ
nullables from to = bit from + 2 * bit to

-- a fence
abbrev pub fence_instr : Ordering → Instr
fence_instr o = record { row = record { opcode = opcode_of 0xfe0003; kinds = Order ∷ [] }; numbers = (o, tt) }
