use Rattle.std.proofs.Common.{◌+◌, length, ap, ◌∙◌, subst}
use Rattle.wasm_ops.specs.ConstExprs.{expression}
use Rattle.wasm_ops.specs.Spelling.{InRangeU32}
use Rattle.wasm_out.specs.BuiltElements.{ended, element_kind, listed_in, InRangeElements}
use Rattle.wasm_out.specs.ElementSegments.{active_bytes, table_index}
use Rattle.wast_core_conv.specs.Meaning as meaning
use Rattle.wast_core_conv.proofs.Adding.{adds_as}
use Rattle.wast_core_conv.proofs.segment_items.add_elements.Goals as goal

pub returns-in_ok-offset-in-Active : goal.returns-in_ok-offset-in-Active
returns-in_ok-offset-in-Active c =
    let table = c.optional_index.result in
    let offset = meaning.as_expression c.in-Active.offset in
    let made = c.in_ok-offset-in-Active.ensures.value in
    let kind = element_kind c.args.elements.now in
    let list = listed_in c.args.elements.now in
    let counted = InRangeU32 (c.args.section.now.count + 1) in
    let held = InRangeElements c.args.elements.now in
    rw (c.in-Active.is, ← c.optional_index.ensures) (adds_as (counted × ((table_index table).in_range × held))
    (counted × (((table_index table).in_range × (expression offset).in_range) × held))
    c.args.section.now c.active.new.self (active_bytes table (ended c.in_ok-offset-in-Active.offset) kind list)
    (active_bytes table (expression offset).bytes kind list) c.active.result
    (ap (λ b. active_bytes table (ended b) kind list) made.0)
    (λ p. (p.0, ((p.1.0, made.1), p.1.1)))
    (λ q. (q.0, (q.1.0.0, q.1.1)))
    c.active.ensures)
