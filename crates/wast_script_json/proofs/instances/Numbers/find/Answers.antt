use Rattle.std.proofs.Common.{Option, sym, ap, ◌∙◌}
use Rattle.wast_base.specs.declared.ids.Id.{Id}
use Rattle.wast_script_json.specs.References.{found}
use Rattle.wast_script_json.proofs.instances.Numbers.find.Goals as goal

pub returns-in-Some : goal.returns-in-Some
returns-in-Some c own all h = c.number_of.ensures ∙ h.by_id c.in-Some.id ∙ ap (λ (o : Option Id). found o own all) (sym c.in-Some.is)

pub returns-in-None : goal.returns-in-None
returns-in-None c own all h = h.last ∙ ap (λ (o : Option Id). found o own all) (sym c.in-None.is)
