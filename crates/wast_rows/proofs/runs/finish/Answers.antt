use Rattle.std.proofs.Common.{sym, ◌∙◌}
use Rattle.std.proofs.lemmas.Result.{on_ok_weaker, IfErr-weaker}
use Rattle.wast_rows.proofs.Writing.{some_line, AnswersWriter-open, StopsWriter-open}
use Rattle.wast_rows.proofs.runs.finish.Goals as goal

pub returns-clause-ok : goal.returns-clause-ok
returns-clause-ok g c =
    let some = some_line c.args.pending.now (sym c.is_empty.ensures ∙ c.if-is_empty.false) in
    on_ok_weaker c.answer_line.result (λ line. AnswersWriter-open _ _ _ _ some c.requires.still_open line) c.answer_line.ensures.ok

pub returns-clause-err : goal.returns-clause-err
returns-clause-err g c =
    let some = some_line c.args.pending.now (sym c.is_empty.ensures ∙ c.if-is_empty.false) in
    IfErr-weaker c.answer_line.result _ _ (λ e stopped. StopsWriter-open _ _ e _ _ some c.requires.still_open stopped) c.answer_line.ensures.err
