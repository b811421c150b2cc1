use Rattle.std.specs.Prelude.{⊤, ◌≤◌, ◌^◌, ◌+◌, length}
use Rattle.std.proofs.Common.{None, subst, ap, ◌∙◌, codes}
use Rattle.wast_base.specs.Faults.{diagnostic_of, At, Duplicate}
use Rattle.wast_base.specs.Ids.{mark_of}
use Rattle.wast_resolve_passes.specs.Locals.{marks_of, names}
use Rattle.wast_resolve_namespace.specs.Filling.{FillsSpace, IsFilled, IsFirstClash}
use Rattle.wast_resolve_passes.proofs.Declaring.{clash_answers, clash_told}
use Rattle.wast_resolve_passes.proofs.locals.name_each.Goals as goal

pub returns-in-Ok-clause-names : goal.returns-in-Ok-clause-names
returns-in-Ok-clause-names c s =
    let ms = marks_of c.args.params.now c.args.locals.now in
    let filled : IsFilled (names ms) c.in-Ok.space = subst (FillsSpace (names ms)) c.in-Ok.is c.in_ok-space.ensures.found in
    (clash_answers s ms None filled.free, tt)

pub returns-in-Some-clause-names : goal.returns-in-Some-clause-names
returns-in-Some-clause-names c s =
    let ms = marks_of c.args.params.now c.args.locals.now in
    let first : IsFirstClash (names ms) c.in-Err.at = subst (FillsSpace (names ms)) c.in-Err.is c.in_ok-space.ensures.found in (
      tt,
      clash_told ⊤ (2 ^ 32 ≤ c.args.nameless + length ms) s ms c.in-Err.at (mark_of c.in-Some.id)
          (diagnostic_of c.new.result) first c.in-Some.ensures (ap diagnostic_of c.new.ensures ∙ ap (λ p. At (Duplicate (codes "local")) p) c.span.ensures),
    )
