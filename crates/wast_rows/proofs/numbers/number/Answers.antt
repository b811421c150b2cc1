use Rattle.std.proofs.Common.{refl}
use Rattle.wast_rows.proofs.Numerals.{no_text, parsed_ok}
use Rattle.wast_rows.proofs.numbers.number.Goals as goal

pub returns-in-Ok : goal.returns-in-Ok
returns-in-Ok c =
    let plain = c.if-not-has_plain_start.ensures in
    parsed_ok _ _ _ _ (plain.sign refl) (plain.zero refl) c.in-Ok.ensures.cases.0 c.parse.ensures.value.0 c.ok.ensures.value

pub returns-in-Err : goal.returns-in-Err
returns-in-Err c = no_text _ c.in-Err.ensures.cases.0
