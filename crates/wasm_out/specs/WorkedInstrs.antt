-- Instructions with each kind of immediates, a body and constant expressions with their bytes, which the definitions
-- compute (src/worked_bytes.rt).
--
--   br_table 1 2 0       0e 02 01 02 00
use Rattle.std.specs.Prelude.{◌≡◌, ℕ, pos, negsuc, true, false, List, [], ◌∷◌, Some, None}
use Rattle.wast_base.specs.declared.mem_ops.MemOp.TheVariants as mem
use Rattle.wast_base.specs.declared.plain.BareOp.TheVariants as bare
use Rattle.wast_base.specs.declared.plain.I32Op.TheVariants as i32
use Rattle.wast_base.specs.declared.plain.I64Op.TheVariants as i64
use Rattle.wast_base.specs.declared.plain.Plain.TheVariants as plain
use Rattle.wasm_ops.specs.declared.blocks.BlockType.TheVariants.{Empty, Result, FunctionType}
use Rattle.wasm_ops.specs.declared.blocks.Catch.TheVariants as catches
use Rattle.wasm_ops.specs.declared.control.BlockOp.TheVariants as block
use Rattle.wasm_ops.specs.declared.control.Delimiter.TheVariants as delimiter
use Rattle.wast_base.specs.declared.index_ops.IndexOp.TheVariants as op
use Rattle.wast_base.specs.declared.index_ops.IndexPairOp.TheVariants as pair
use Rattle.wasm_ops.specs.declared.memargs.MemArg.{MemArg}
use Rattle.wasm_ops.specs.declared.memargs.MemArgTarget.TheVariants.{Memory}
use Rattle.wasm_ops.specs.declared.types.ValType.TheVariants as val
use Rattle.wasm_ops.specs.ConstantInstrs.{i32_const_instr, i64_const_instr, f32_const_instr, f64_const_instr}
use Rattle.wasm_ops.specs.ConstExprs.{expression}
use Rattle.wasm_ops.specs.ControlInstrs.{block_instr, delimiter_instr, br_table_instr, try_table_instr}
use Rattle.wasm_ops.specs.IndexInstrs.{index_instr, index_pair_instr}
use Rattle.wasm_ops.specs.MemoryInstrs.{mem_instr}
use Rattle.wasm_ops.specs.PlainInstrs.{plain_instr}
use Rattle.wasm_ops.specs.SelectInstrs.{select_instr}
use Rattle.wasm_ops.specs.Table.{Instr, instrs}
use Rattle.wasm_ops.specs.Turns.{are_balanced}
use Rattle.wasm_out.specs.Bodies.{Body, body_content}

abbrev accessed : ℕ → ℕ → ℕ → MemArg
accessed align memory offset = record { align = align; target = Memory memory; offset = offset; ordering = None }

-- i32.add, i64.trunc_sat_f64_u; global.set 1, table.grow 2; memory.copy 1 2; (i64.const -1); (f32.const 1), (f64.const 1); select, (select (result i32)); (i32.load 1 offset=4 align=4), (i64.store8 offset=300); local.tee 128, br_on_non_null 3; block (result i32), loop (type 64); else, delegate 0; br_table 1 2 0; try_table (catch 1 2) (catch_ref 3 4) (catch_all 5) (catch_all_ref 6)
abbrev pub worked_instrs : List Instr
worked_instrs =
    plain_instr (plain.I32 i32.i32_add)
    ∷ plain_instr (plain.I64 i64.i64_trunc_sat_f64_u)
    ∷ index_instr op.GlobalSet 1
    ∷ index_instr op.TableGrow 2
    ∷ index_pair_instr pair.MemoryCopy 1 2
    ∷ i64_const_instr (negsuc 0)
    ∷ f32_const_instr 1065353216
    ∷ f64_const_instr 4607182418800017408
    ∷ select_instr None
    ∷ select_instr (Some (val.I32 ∷ []))
    ∷ mem_instr mem.i32_load (accessed 2 1 4)
    ∷ mem_instr mem.i64_store8 (accessed 0 0 300)
    ∷ index_instr op.LocalTee 128
    ∷ index_instr op.BrOnNonNull 3
    ∷ block_instr block.Block (Result val.I32)
    ∷ block_instr block.Loop (FunctionType 64)
    ∷ delimiter_instr delimiter.Else
    ∷ index_instr op.Delegate 0
    ∷ br_table_instr (1 ∷ 2 ∷ []) 0
    ∷ try_table_instr Empty (catches.One 1 2 ∷ catches.OneRef 3 4 ∷ catches.All 5 ∷ catches.AllRef 6 ∷ [])
    ∷ []

abbrev pub instr_bytes : List ℕ
instr_bytes = 0x6a ∷ 0xfc ∷ 0x07 ∷ 0x24 ∷ 0x01 ∷ 0xfc ∷ 0x0f ∷ 0x02
    ∷ 0xfc ∷ 0x0a ∷ 0x01 ∷ 0x02
    ∷ 0x42 ∷ 0x7f
    ∷ 0x43 ∷ 0x00 ∷ 0x00 ∷ 0x80 ∷ 0x3f
    ∷ 0x44 ∷ 0x00 ∷ 0x00 ∷ 0x00 ∷ 0x00 ∷ 0x00 ∷ 0x00 ∷ 0xf0 ∷ 0x3f
    ∷ 0x1b ∷ 0x1c ∷ 0x01 ∷ 0x7f
    ∷ 0x28 ∷ 0x42 ∷ 0x01 ∷ 0x04
    ∷ 0x3c ∷ 0x00 ∷ 0xac ∷ 0x02
    ∷ 0x22 ∷ 0x80 ∷ 0x01 ∷ 0xd6 ∷ 0x03
    ∷ 0x02 ∷ 0x7f ∷ 0x03 ∷ 0xc0 ∷ 0x00
    ∷ 0x05 ∷ 0x18 ∷ 0x00
    ∷ 0x0e ∷ 0x02 ∷ 0x01 ∷ 0x02 ∷ 0x00
    ∷ 0x1f ∷ 0x40 ∷ 0x04 ∷ 0x00 ∷ 0x01 ∷ 0x02 ∷ 0x01 ∷ 0x03 ∷ 0x04 ∷ 0x02 ∷ 0x05 ∷ 0x03 ∷ 0x06 ∷ []

-- The definitions compute these bytes.
abbrev pub InstrsSpelled : Type 0
InstrsSpelled = instrs worked_instrs ≡ instr_bytes

-- A block without a type, and the end of one.
abbrev opened : Instr
opened = block_instr block.Block Empty

abbrev ended : Instr
ended = delimiter_instr delimiter.End

-- block, loop (result i32), local.get 0, end, drop, end
abbrev pub nested_body : Body
nested_body = record {
  locals = [];
  instrs = opened ∷ block_instr block.Loop (Result val.I32) ∷ index_instr op.LocalGet 0 ∷ ended ∷ plain_instr (plain.Bare bare.drop) ∷ ended ∷ [];
}

-- A body has an end for each of its blocks, and its own.
abbrev pub BodySpelled : Type 0
BodySpelled = (body_content nested_body).bytes ≡ 0x00 ∷ 0x02 ∷ 0x40 ∷ 0x03 ∷ 0x7f ∷ 0x20 ∷ 0x00 ∷ 0x0b ∷ 0x1a ∷ 0x0b ∷ 0x0b ∷ []

-- block, end, (i32.const 0)
abbrev pub worked_expression : List Instr
worked_expression = opened ∷ ended ∷ i32_const_instr (pos 0) ∷ []

-- A constant expression may have blocks, if each has its end.
pub record ExpressionSpelled : Type 0 where
  pub balanced : are_balanced worked_expression ≡ true
  pub bytes : (expression worked_expression).bytes ≡ 0x02 ∷ 0x40 ∷ 0x0b ∷ 0x41 ∷ 0x00 ∷ 0x0b ∷ []

-- A block without an end, and an end without a block before it, are not balanced. A delegate ends one block only.
pub record AreNoExpressions : Type 0 where
  pub unclosed : are_balanced (opened ∷ []) ≡ false
  pub unopened : are_balanced (ended ∷ opened ∷ []) ≡ false
  pub delegated : are_balanced (opened ∷ block_instr block.Try Empty ∷ index_instr op.Delegate 0 ∷ []) ≡ false
