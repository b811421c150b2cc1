use Rattle.std.proofs.Common.{ℕ, List, sym, ◌∙◌, ◌++◌, subst, length-append, arith}
use Rattle.std.specs.List.{flat_map}
use Rattle.wasm_ops.proofs.Everywhere.{flat_in_flat}
use Rattle.wasm_ops.proofs.Sinking.{cut_back}
use Rattle.wasm_ops.specs.Sinks.{Writes}
use Rattle.wasm_out.specs.Parts.{part}
use Rattle.wasm_out.specs.Reads.{header}
use Rattle.wast_core_sections.specs.Writable.{InRangeModule}
use Rattle.wast_core_sections.specs.Sections.{in_slot, parts}
use Rattle.wast_core_sections.specs.Slots.{order}
use Rattle.wast_core_name_section.specs.FoundNames.{text_seen}
use Rattle.wast_core_sections.proofs.Appended.{written_behind}
use Rattle.wast_core_sections.proofs.sections.put_sections.Goals as goal

pub returns-then-is_err : goal.returns-then-is_err
returns-then-is_err g c =
    let rules = g.S.Sink.rules in
    let name = text_seen c.args.name in
    let fields = c.args.fields.now in
    let fits : Type 0 = InRangeModule name fields in
    let y : List ℕ = flat_map part (parts name fields) in
    let second = subst (λ (l : List ℕ). Writes rules fits c.encode.new.out c.put_slots-second.new.out l c.put_slots-second.result)
    (flat_in_flat part (in_slot name fields) order) c.put_slots-second.ensures in
    cut_back rules fits fits c.args.out.now c.encode.new.out c.put_slots-second.new.out c.cut.new.self header y
    (header ++ y) c.size-start.result c.put_slots-second.result
    g.met.S.Sink.laws (omega (arith, length-append header y)) (λ t. t) c.in_ok-encode.ensures.0 second (sym c.is_err.ensures.value
    ∙ c.if-is_err.true) c.size-start.ensures c.cut.ensures

pub returns-else-is_err : goal.returns-else-is_err
returns-else-is_err g c =
    let rules = g.S.Sink.rules in
    let name = text_seen c.args.name in
    let fields = c.args.fields.now in
    let fits : Type 0 = InRangeModule name fields in
    let y : List ℕ = flat_map part (parts name fields) in
    let second = subst (λ (l : List ℕ). Writes rules fits c.encode.new.out c.put_slots-second.new.out l c.put_slots-second.result)
    (flat_in_flat part (in_slot name fields) order) c.put_slots-second.ensures in
    written_behind rules fits c.args.out.now c.encode.new.out c.put_slots-second.new.out header y c.put_slots-second.result
    g.met.S.Sink.laws c.in_ok-encode.ensures.0 second (sym c.is_err.ensures.value ∙ c.if-is_err.false)
