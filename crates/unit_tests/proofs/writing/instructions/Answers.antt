use Rattle.std.proofs.Common.{[], ◌∷◌}
use Rattle.std.proofs.lemmas.List.Elements.{All-nil, All-cons}
use Rattle.wast_base.specs.declared.plain.Plain.TheVariants as plain
use Rattle.wast_base.specs.declared.plain.I32Op.TheVariants as i32
use Rattle.wast_base.specs.declared.index_ops.IndexOp.TheVariants as op
use Rattle.wasm_ops.specs.IndexInstrs.{index_instr}
use Rattle.wasm_ops.specs.PlainInstrs.{plain_instr}
use Rattle.wasm_ops.specs.Table.{IsInstr}
use Rattle.unit_tests.proofs.writing.instructions.Goals as goal

pub returns-clause-rows : goal.returns-clause-rows
returns-clause-rows c =
    let first = index_instr op.LocalGet 0 in
    let second = index_instr op.LocalGet 1 in
    let third = plain_instr (plain.I32 i32.i32_add) in
    All-cons IsInstr first (second ∷ third ∷ []) c.in_ok-index.ensures.appended.1
    (All-cons IsInstr second (third ∷ []) c.in_ok-index-2.ensures.appended.1 (All-cons IsInstr third [] c.in_ok-plain.ensures.appended.1 (All-nil IsInstr)))
