use Rattle.wasm_ops.proofs.Sinking.{one_written, puts_as}
use Rattle.wasm_out.specs.Parts.{part, InRangePart}
use Rattle.wast_core_sections.specs.Sections.{index_value, start_part}
use Rattle.wast_core_sections.proofs.entries.StartOfEncodeWithModuleField.spell.Goals as goal

pub returns-in-Start : goal.returns-in-Start
returns-in-Start g c =
    let rules = g.S.Sink.rules in
    let here = start_part (index_value c.in-Start.func) in
    rw c.in-Start.is (one_written rules part InRangePart c.args.out.now c.encode.new.out here c.encode.result
    (puts_as rules (Unit {0} × InRangePart here) (InRangePart here) c.args.out.now c.encode.new.out (part here) c.encode.result (λ h. h.1)
    (λ h. (tt, h)) c.encode.ensures))
