-- The goals of `read` that tactics leave open, closed by lemmas of Opened.
use Rattle.std.proofs.Common.{length, refl}
use Rattle.wat_tokens.specs.Groups.{all_in}
use Rattle.wat_text.proofs.Opened.{text_err, text_first}
use Rattle.wat_text.proofs.modules.read.Goals as goal

pub returns-in-Ok-clause-refuses : goal.returns-in-Ok-clause-refuses
returns-in-Ok-clause-refuses c = text_err c.args.text.now (all_in c.in-Ok.groups.groups.items)
    (record { offset = length c.args.text.now }) refl c.in-Ok.ensures.read c.in-Ok.ensures.words
    c.module_of_groups_up_to.result c.module_of_groups_up_to.ensures.refuses

pub returns-in-Err-clause-refuses : goal.returns-in-Err-clause-refuses
returns-in-Err-clause-refuses c = text_first c.args.text.now c.in-Err.error c.first_error.result c.in-Err.ensures.read c.first_error.ensures.memory
