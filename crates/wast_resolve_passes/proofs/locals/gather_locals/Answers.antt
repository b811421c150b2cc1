use Rattle.std.proofs.Common.{◌++◌, map, ap, ◌∙◌}
use Rattle.wast_base.specs.Ids.{mark_of_option}
use Rattle.wast_base.specs.Spaces.{name_if}
use Rattle.wast_resolve_passes.proofs.Declaring.{names_are}
use Rattle.wast_resolve_passes.proofs.locals.gather_locals.Goals as goal

pub returns : goal.returns
returns c =
    let params = c.args.params.now in
    let locals = c.args.locals.now in
    c.in_ok-gather_each-2.ensures
    ∙ (ap (λ ns. ns ++ map (λ l. name_if (mark_of_option l.id)) locals) (c.in_ok-gather_each.ensures
    ∙ ap (λ ns. ns ++ map (λ p. name_if (mark_of_option p.0)) params) c.in_ok-gathering.ensures)
    ∙ names_are (λ p. mark_of_option p.0) (λ l. mark_of_option l.id) params locals)
