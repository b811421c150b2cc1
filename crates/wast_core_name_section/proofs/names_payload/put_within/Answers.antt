use Rattle.std.proofs.Common.{sym, ◌∙◌}
use Rattle.wast_core_name_section.specs.FoundNames.{text_seen}
use Rattle.wast_core_name_section.specs.ModuleNames.{name_subsections}
use Rattle.wast_core_name_section.proofs.NameMaps.{names_absent, names_written}
use Rattle.wast_core_name_section.proofs.names_payload.put_within.Goals as goal

pub returns-then-not-has_names : goal.returns-then-not-has_names
returns-then-not-has_names g c =
    names_absent g.S.Sink.rules c.args.out.now (name_subsections (text_seen c.args.name) c.args.fields.now) g.met.S.Sink.laws
    (sym c.has_names.ensures ∙ c.if-not-has_names.true)

pub returns : goal.returns
returns g c =
    names_written g.S.Sink.rules c.args.out.now c.put_name_section.new.out
    (name_subsections (text_seen c.args.name) c.args.fields.now) c.put_name_section.result (sym c.has_names.ensures
    ∙ c.if-not-has_names.false) c.put_name_section.ensures
