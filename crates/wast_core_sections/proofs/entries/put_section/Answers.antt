use Rattle.std.proofs.Common.{refl}
use Rattle.std.specs.Prelude.{All}
use Rattle.std.specs.List.{flat_map}
use Rattle.wasm_out.specs.Parts.{part, InRangePart}
use Rattle.wast_core_sections.specs.Sections.{entries, section_part}
use Rattle.wast_core_sections.specs.Slots.{section_kind}
use Rattle.wast_core_sections.proofs.Appended.{too_large}
use Rattle.wast_core_sections.proofs.Listed.{counted_in_range, listed_written, listed_absent}
use Rattle.wast_core_sections.proofs.entries.put_section.Goals as goal

pub returns-in_default : goal.returns-in_default
returns-in_default g c =
    let k = section_kind c.args.kind in
    let there = entries k c.args.fields.now in
    too_large g.S.Sink.rules (All InRangePart (section_part k there)) c.args.out.now (flat_map part (section_part k there)) g.met.S.Sink.laws
    (λ h. c.in_default.ensures.none refl (counted_in_range k there h))

pub returns-then-count-eq0 : goal.returns-then-count-eq0
returns-then-count-eq0 g c =
    let k = section_kind c.args.kind in
    listed_absent g.S.Sink.rules k (entries k c.args.fields.now) c.args.out.now c.in-Some.count g.met.S.Sink.laws c.in-Some.ensures.some c.if-count-eq0.true

pub put_listed-requires : goal.put_listed-requires
put_listed-requires g c = c.section_fields-there.ensures.ready c.requires.ready

pub returns : goal.returns
returns g c =
    listed_written g.S.Sink.rules (section_kind c.args.kind) c.args.fields.now c.section_fields-there.result.now c.args.out.now c.put_listed.new.out
    c.id-id.result c.in-Some.count c.put_listed.result
    c.id-id.ensures c.section_fields-there.ensures.same c.in-Some.ensures.some c.if-count-eq0.false c.put_listed.ensures
