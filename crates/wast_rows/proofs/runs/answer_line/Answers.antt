use Rattle.std.proofs.Common.{◌≡◌, rules, string_bytes}
use Rattle.std.proofs.lemmas.Result.{on_err_weaker}
use Rattle.wast_rows.specs.Lines.{ended_line}
use Rattle.wast_rows.proofs.Writing.{when_written, BeginsLine-partly}
use Rattle.wast_rows.proofs.runs.answer_line.Goals as goal

pub returns-clause-err : goal.returns-clause-err
returns-clause-err g c =
    let same : c.as_bytes.result.now ≡ ended_line (string_bytes c.in_ok-text.text) = search rules in
    when_written c.write_bytes.result _
    (on_err_weaker c.write_bytes.result (λ begun. BeginsLine-partly _ _ _ _ _ _ c.in_ok-text.ensures.told same begun) c.write_bytes.ensures.err)
    c.write_bytes.ensures.error
