-- The goals of `script_of` that tactics leave open, closed by lemmas of Reading.
use Rattle.wast_script.proofs.Reading.{text_ok, text_err, no_tokens}
use Rattle.wast_script.proofs.scripts.script_of.Goals as goal

pub returns-in-Ok-clause-commands : goal.returns-in-Ok-clause-commands
returns-in-Ok-clause-commands c = text_ok c.args.text.now c.in-Ok.tokens.items c.script_of_tokens.result
    c.in-Ok.ensures.read c.in-Ok.ensures.words c.script_of_tokens.ensures.commands

pub returns-in-Ok-clause-refuses : goal.returns-in-Ok-clause-refuses
returns-in-Ok-clause-refuses c = text_err c.args.text.now c.in-Ok.tokens.items c.script_of_tokens.result
    c.in-Ok.ensures.read c.in-Ok.ensures.words c.script_of_tokens.ensures.refuses

pub returns-in-Err-clause-refuses : goal.returns-in-Err-clause-refuses
returns-in-Err-clause-refuses c = no_tokens c.args.text.now c.in-Err.error c.in-Err.ensures.read
