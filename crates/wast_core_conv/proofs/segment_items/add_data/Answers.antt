use Rattle.std.proofs.Common.{◌+◌, length, ap, ◌∙◌, subst}
use Rattle.wasm_ops.specs.ConstExprs.{expression}
use Rattle.wasm_ops.specs.Spelling.{InRangeU32}
use Rattle.wasm_out.specs.BuiltElements.{ended}
use Rattle.wasm_out.specs.DataSegments.{data_place, placed_bytes}
use Rattle.wasm_out.specs.DataSegments as segments
use Rattle.wast_core_conv.specs.Meaning as meaning
use Rattle.wast_core_conv.proofs.Adding.{adds_as}
use Rattle.wast_core_conv.proofs.segment_items.add_data.Goals as goal

pub returns-in_ok-offset-in-Active : goal.returns-in_ok-offset-in-Active
returns-in_ok-offset-in-Active c =
    let memory = meaning.index_value c.in-Active.memory in
    let offset = meaning.as_expression c.in-Active.offset in
    let made = c.in_ok-offset-in-Active.ensures.value in
    let counted = InRangeU32 (c.args.section.now.count + 1) in
    let sized = InRangeU32 (length c.args.bytes.now) in
    rw c.in-Active.is (adds_as (counted × sized) (counted × ((InRangeU32 memory × (expression offset).in_range) × sized))
    c.args.section.now c.active.new.self (placed_bytes c.index.result (ended c.in_ok-offset-in-Active.offset) c.args.bytes.now)
    (placed_bytes memory (expression offset).bytes c.args.bytes.now) c.active.result
    (ap (λ m. placed_bytes m (ended c.in_ok-offset-in-Active.offset) c.args.bytes.now) c.index.ensures
    ∙ ap (λ b. placed_bytes memory (ended b) c.args.bytes.now) made.0)
    (λ p. (p.0, ((subst InRangeU32 c.index.ensures c.index.type_inv, made.1), p.1)))
    (λ q. (q.0, q.1.1))
    c.active.ensures)
