use Rattle.std.proofs.Common.{◌≡◌, ◌∙◌, ap, subst}
use Rattle.std.specs.List.{All, flat_map, list_all}
use Rattle.std.proofs.lemmas.Result.{err_from_is_err_and}
use Rattle.wast_base.specs.Blocks.{is_balanced}
use Rattle.wast_tree_nodes.specs.Instrs.{block_effects}
use Rattle.wasm_ops.specs.Table.{instr}
use Rattle.wasm_out.specs.Built.{IsRefused}
use Rattle.wast_core_conv.specs.Encodable.{is_encodable_instr}
use Rattle.wast_core_conv.specs.Meaning as meaning
use Rattle.wast_core_conv.proofs.Expressions.{spells_expression, expression_made, expression_refused}
use Rattle.wast_core_conv.proofs.Standing.{ready_instrs, ready_balanced}
use Rattle.wast_core_conv.proofs.conv.const_expr.Goals as goal

pub returns-in_err-bytes-clause-refusal : goal.returns-in_err-bytes-clause-refusal
returns-in_err-bytes-clause-refusal c =
    let p = err_from_is_err_and c.from_residual.result c.from_residual.ensures.1 in
    rw (p.1, p.2) (expression_refused c.args.expression.now.instrs c.in_err-bytes.field-0.0 (subst
    (λ is. IsRefused (All (λ i. (instr (meaning.as_instr i)).in_range) is) c.in_err-bytes.field-0.0) c.as_slice.ensures c.in_err-bytes.ensures.refusal))

pub instrs_bytes-requires : goal.instrs_bytes-requires
instrs_bytes-requires c = ap (list_all is_encodable_instr) c.as_slice.ensures ∙ ready_instrs c.args.expression.now c.requires

pub raw-requires : goal.raw-requires
raw-requires c =
    spells_expression c.as_slice.result.now c.in_ok-bytes.bytes.items (ap (list_all is_encodable_instr) c.as_slice.ensures
    ∙ ready_instrs c.args.expression.now c.requires)
    (ap (λ is. is_balanced (block_effects is)) c.as_slice.ensures ∙ ready_balanced c.args.expression.now c.requires) c.in_ok-bytes.ensures.value

pub returns-clause-value : goal.returns-clause-value
returns-clause-value c =
    let bytes = c.in_ok-bytes.bytes.items in
    let made = expression_made c.args.expression.now.instrs bytes
    (subst (λ is. (bytes ≡ flat_map (λ i. (instr (meaning.as_instr i)).bytes) is) × All (λ i. (instr (meaning.as_instr i)).in_range) is)
    c.as_slice.ensures c.in_ok-bytes.ensures.value) in
    (c.raw.ensures ∙ made.0, made.1)
