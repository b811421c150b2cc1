-- The goals of `number_in_text` that tactics leave open, closed by lemmas of BareAnswers.
use Rattle.std.proofs.Common.{subst}
use Rattle.wat_bytes.specs.Names.{NumbersText}
use Rattle.wat_bytes.specs.Texts.{IsRead}
use Rattle.wat_bytes.proofs.BareAnswers.{of_parsed, of_error, numbered_bare}
use Rattle.wat_bytes.proofs.names.number_in_text.Goals as goal

pub returns-in-Ok-clause-answer : goal.returns-in-Ok-clause-answer
returns-in-Ok-clause-answer c =
    of_parsed c.bare_laws.ensures (NumbersText c.args.space c.args.name.now)
    (numbered_bare c.bare_laws.ensures c.args.space c.args.name.now) c.args.text.now c.in-Ok.«module» c.found_in_text.result
    (subst (IsRead c.args.text.now) c.in-Ok.is c.read_text.ensures.read) c.found_in_text.ensures

pub returns-in-Err-clause-answer : goal.returns-in-Err-clause-answer
returns-in-Err-clause-answer c =
    of_error c.bare_laws.ensures (NumbersText c.args.space c.args.name.now) (numbered_bare c.bare_laws.ensures c.args.space c.args.name.now)
    c.args.text.now c.in-Err.error (subst (IsRead c.args.text.now) c.in-Err.is c.read_text.ensures.read)
