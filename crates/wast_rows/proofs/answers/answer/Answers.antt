use Rattle.std.proofs.lemmas.Result.{IfOk-weaker}
use Rattle.wast_rows.specs.Answers.{TellsLine}
use Rattle.wast_rows.proofs.answers.answer.Goals as goal

pub returns-in-Some-clause-told : goal.returns-in-Some-clause-told
returns-in-Some-clause-told g c =
    IfOk-weaker c.line_of_row.result _ _ (λ line tells. TellsLine.row c.in-Some.n _ c.in-Some.ensures c.sample.ensures tells) c.line_of_row.ensures.told
