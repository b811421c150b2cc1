-- The goal of `module_output` that tactics leave open, closed by a lemma of Written.
use Rattle.wat.proofs.Written.{module_written}
use Rattle.wat.proofs.conversions.module_output.Goals as goal

pub returns-in-Ok : goal.returns-in-Ok
returns-in-Ok c =
    module_written c.args.options.now c.args.text.now c.in-Ok.bytes c.output_of_bytes.result c.allocated.result c.in-Ok.ensures.answer
    c.output_of_bytes.ensures c.allocated.ensures
