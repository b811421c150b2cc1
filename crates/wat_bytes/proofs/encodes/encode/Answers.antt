-- The goals of `encode` that tactics leave open, closed by lemmas of BareAnswers.
use Rattle.std.proofs.Common.{subst}
use Rattle.wat_bytes.specs.Texts.{EncodesText, IsRead}
use Rattle.wat_bytes.proofs.BareAnswers.{of_parsed, of_error, encoded_bare}
use Rattle.wat_bytes.proofs.encodes.encode.Goals as goal

pub returns-in-Ok-clause-answer : goal.returns-in-Ok-clause-answer
returns-in-Ok-clause-answer c =
    of_parsed c.bare_laws.ensures EncodesText (encoded_bare c.bare_laws.ensures) c.args.text.now c.in-Ok.«module» c.encoded_in.result
    (subst (IsRead c.args.text.now) c.in-Ok.is c.read_text.ensures.read) c.encoded_in.ensures

pub returns-in-Err-clause-answer : goal.returns-in-Err-clause-answer
returns-in-Err-clause-answer c =
    of_error c.bare_laws.ensures EncodesText (encoded_bare c.bare_laws.ensures) c.args.text.now c.in-Err.error
    (subst (IsRead c.args.text.now) c.in-Err.is c.read_text.ensures.read)
