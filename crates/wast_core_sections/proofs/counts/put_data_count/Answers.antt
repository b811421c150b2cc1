use Rattle.std.proofs.Common.{refl, sym, ◌∙◌}
use Rattle.std.specs.Prelude.{All}
use Rattle.std.specs.List.{flat_map}
use Rattle.wasm_out.specs.Parts.{part, InRangePart}
use Rattle.wast_core_sections.specs.Sections.{data_counts}
use Rattle.wast_core_sections.proofs.Appended.{too_large}
use Rattle.wast_core_sections.proofs.Counting.{count_absent, count_in_range, count_written}
use Rattle.wast_core_sections.proofs.counts.put_data_count.Goals as goal

pub returns-then-not-is_counted : goal.returns-then-not-is_counted
returns-then-not-is_counted g c = count_absent g.S.Sink.rules c.args.fields.now c.args.out.now g.met.S.Sink.laws (sym c.if-not-is_counted.true
    ∙ c.is_counted.ensures)

pub returns-in_default : goal.returns-in_default
returns-in_default g c =
    let fields = c.args.fields.now in
    too_large g.S.Sink.rules (All InRangePart (data_counts fields)) c.args.out.now (flat_map part (data_counts fields)) g.met.S.Sink.laws
    (λ h. c.in_default.ensures.none refl (count_in_range fields (sym c.if-not-is_counted.false ∙ c.is_counted.ensures) h))

pub returns : goal.returns
returns g c = count_written g.S.Sink.rules c.args.fields.now c.in-Some.count c.args.out.now c.encode.new.out c.encode.result
    (sym c.if-not-is_counted.false ∙ c.is_counted.ensures) c.in-Some.ensures.some c.encode.ensures
