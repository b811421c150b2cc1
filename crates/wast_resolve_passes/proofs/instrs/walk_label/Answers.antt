use Rattle.std.proofs.Common.{◌∙◌, sym, subst}
use Rattle.std.proofs.lemmas.Result.{err_from_is_err_and}
use Rattle.wast_base.specs.Faults.{diagnostic_of}
use Rattle.wast_base.specs.FirstUnmet.{Answers}
use Rattle.wast_resolve_passes.proofs.Within.{label_unmet}
use Rattle.wast_resolve_passes.proofs.instrs.walk_label.Goals as goal

pub returns-in_err-number : goal.returns-in_err-number
returns-in_err-number c names =
    let t = diagnostic_of c.in_err-number.field-0.0 in
    let p = err_from_is_err_and c.from_residual.result c.from_residual.ensures.1 in
    rw (p.1, p.2) (subst (Answers ⊥ ⊥ t) (label_unmet c.args.labels.now c.args.label.now) c.in_err-number.ensures.answer)

pub returns : goal.returns
returns c names =
    (sym (label_unmet c.args.labels.now c.args.label.now) ∙ c.in_ok-number.ensures.answer, c.in_ok-number.ensures.index)
