use Rattle.std.proofs.Common.{◌∙◌, ap, sym}
use Rattle.wast_resolve_passes.specs.Locals.{params_in}
use Rattle.wast_resolve_passes.proofs.Declaring.{params_answer}
use Rattle.wast_resolve_passes.proofs.locals.name_declared.Goals as goal

pub returns-in-None-clause-names : goal.returns-in-None-clause-names
returns-in-None-clause-names c s =
    params_answer s c.args.nameless _ _ c.args.locals.now c.name_each.result (sym (ap params_in c.in-None.is)) (c.name_each.ensures.names s)

pub returns-in-Some-clause-names : goal.returns-in-Some-clause-names
returns-in-Some-clause-names c s =
    params_answer s c.args.nameless _ _ c.args.locals.now c.name_each-in-Some.result (c.as_slice.ensures
    ∙ sym (ap params_in c.in-Some.is)) (c.name_each-in-Some.ensures.names s)
