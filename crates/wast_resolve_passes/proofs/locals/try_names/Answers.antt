use Rattle.std.proofs.Common.{sym, ◌∙◌}
use Rattle.std.proofs.lemmas.List.{length-map}
use Rattle.wast_base.specs.Ids.{mark_of_option}
use Rattle.wast_base.specs.Spaces.{name_if}
use Rattle.wast_resolve_passes.specs.Locals.{marks_of, names}
use Rattle.wast_resolve_passes.proofs.Declaring.{no_names, how_many}
use Rattle.wast_resolve_names.proofs.NoIds.{empty_filled}
use Rattle.wast_resolve_passes.proofs.locals.try_names.Goals as goal

pub returns-then-not-have_ids-2-clause-found : goal.returns-then-not-have_ids-2-clause-found
returns-then-not-have_ids-2-clause-found c =
    let params = c.args.params.now in
    let locals = c.args.locals.now in
    let ms = marks_of params locals in
    let none = no_names (λ p. mark_of_option p.0) (λ l. mark_of_option l.id) params locals (sym c.have_ids.ensures
    ∙ c.if-not-have_ids.true) (sym c.have_ids-then-not-have_ids.ensures ∙ c.if-not-have_ids-2.true) in
    empty_filled (names ms) c.with_count.result _ none (how_many (λ p. mark_of_option p.0) (λ l. mark_of_option l.id) params locals
    ∙ sym (length-map ms name_if)) c.with_count.ensures
