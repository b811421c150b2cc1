-- The goal of `element_places` that tactics leave open, closed by a lemma of Elements.
use Rattle.wat_tokens.proofs.Elements.{no_longer}
use Rattle.wat_tokens.proofs.strings.element_places.Goals as goal

pub returns-in-Ok-push_times-clause-shorter : goal.returns-in-Ok-push_times-clause-shorter
returns-in-Ok-push_times-clause-shorter c = no_longer c.args.text.now c.in-Ok.rest.now c.clear.new.self.items c.element.new.out.items c.in-Ok.ensures
