use Rattle.wast_resolve_passes.proofs.Declaring.{names_answer}
use Rattle.wast_resolve_passes.proofs.locals.name_locals.Goals as goal

pub returns-in-Inline-clause-names : goal.returns-in-Inline-clause-names
returns-in-Inline-clause-names c s =
    rw c.in-Inline.is
    (names_answer s _ _ c.args.ty.now.inline c.in-Inline.locals c.in-Inline.expression _ c.name_declared.result c.unsaid_params.ensures
    c.as_slice.ensures (c.name_declared.ensures.names s))
