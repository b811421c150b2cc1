-- The goal of `module_of_groups` that tactics leave open, closed by lemmas of Opened.
use Rattle.wat_tokens.specs.Groups.{all_in}
use Rattle.wat_text.specs.Denotes.{all_bare, module_after, bare_opening}
use Rattle.wat_text.proofs.Opened.{after_opening, means_err}
use Rattle.wat_text.proofs.modules.module_of_groups.Goals as goal

pub returns-clause-refuses : goal.returns-clause-refuses
returns-clause-refuses c = means_err c.args.source.now
    (all_bare (all_in c.args.groups.groups.items) c.args.end) c.of_groups-reader.result c.of_groups-reader.ensures.clean
    c.of_groups-reader.ensures.left c.module_after.result
    (after_opening (λ o. module_after c.args.source.now o.0 o.1) c.of_groups-reader.result c.module_head-head.new.self
    (bare_opening c.module_head-head.result) c.module_after.result c.module_head-head.ensures c.module_after.ensures)
