use Rattle.std.proofs.Common.{sym, ◌∙◌}
use Rattle.wast_core_name_section.specs.FoundNames.{text_seen}
use Rattle.wast_core_sections.proofs.GivenNames.{own_names_alone, names_written}
use Rattle.wast_core_sections.proofs.sections.put_given_names.Goals as goal

pub returns-then-has_own_names : goal.returns-then-has_own_names
returns-then-has_own_names g c = own_names_alone g.S.Sink.rules c.args.out.now (text_seen c.args.name) c.args.fields.now g.met.S.Sink.laws
    (sym c.has_own_names.ensures ∙ c.if-has_own_names.true)

pub returns : goal.returns
returns g c = names_written g.S.Sink.rules c.args.out.now c.put_names.new.out (text_seen c.args.name) c.args.fields.now c.put_names.result
    (sym c.has_own_names.ensures ∙ c.if-has_own_names.false) c.put_names.ensures
