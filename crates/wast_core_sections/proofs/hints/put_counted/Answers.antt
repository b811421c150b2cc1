use Rattle.std.specs.List.{flat_map}
use Rattle.wast_core_name_section.specs.GivenNames.{named_from}
use Rattle.wast_core_sections.proofs.Hinting.{section_absent, section_written}
use Rattle.wast_core_sections.proofs.hints.put_counted.Goals as goal

pub returns-then-count-eq0 : goal.returns-then-count-eq0
returns-then-count-eq0 g c =
    let there = named_from 0 (flat_map g.F.PutHints.functions c.args.fields.now) in
    section_absent g.S.Sink.rules there c.args.out.now c.args.count g.met.S.Sink.laws c.requires.counted c.if-count-eq0.true

pub returns : goal.returns
returns g c =
    let there = named_from 0 (flat_map g.F.PutHints.functions c.args.fields.now) in
    section_written g.S.Sink.rules there c.args.out.now c.encode.new.out c.args.count c.encode.result c.requires.counted c.if-count-eq0.false c.encode.ensures
