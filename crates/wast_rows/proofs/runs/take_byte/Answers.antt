use Rattle.wast_rows.proofs.Writing.{if_raised, EndedWriter-nil, EndedWriter-feed, StopsWriter-none, StopsWriter-feed}
use Rattle.wast_rows.specs.declared.errors.RunError.TheVariants as error
use Rattle.wast_rows.proofs.Feeding.{IsOpen-push}
use Rattle.wast_rows.proofs.runs.take_byte.Goals as goal

pub returns-in_err-push-clause-err : goal.returns-in_err-push-clause-err
returns-in_err-push-clause-err g c = if_raised c.from_residual.result _ error.Memory c.from_residual.ensures.1 (λ rest. StopsWriter-none _ _ _)

pub returns-then-byte-ne10-clause-ok : goal.returns-then-byte-ne10-clause-ok
returns-then-byte-ne10-clause-ok g c = rw c.in_ok-push.ensures.items (EndedWriter-nil _ _ _ (IsOpen-push _ _ c.requires.still_open c.if-byte-ne10.true))

pub returns-in_err-answer_line-clause-err : goal.returns-in_err-answer_line-clause-err
returns-in_err-answer_line-clause-err g c =
    if_raised c.from_residual-in_err-answer_line.result _ c.in_err-answer_line.field-0.0 c.from_residual-in_err-answer_line.ensures.1
    (λ rest. rw c.if-byte-ne10.false (StopsWriter-feed _ _ _ _ _ _ c.requires.still_open (rw c.as_slice.ensures.value at c.in_err-answer_line.ensures.err)))

pub returns-clause-ok : goal.returns-clause-ok
returns-clause-ok g c =
    rw (c.if-byte-ne10.false, c.clear.ensures.items)
    (EndedWriter-feed _ _ _ _ c.requires.still_open (rw c.as_slice.ensures.value at c.in_ok-answer_line.ensures.ok))
