-- The goal of `names_output` that tactics leave open, closed by a lemma of Written.
use Rattle.std.proofs.Common.{rules}
use Rattle.wat.proofs.Written.{names_written}
use Rattle.wat.proofs.conversions.names_output.Goals as goal

pub returns-in-Ok : goal.returns-in-Ok
returns-in-Ok c =
    names_written c.args.text.now c.in-Ok.names c.as_slice.result.now c.name_lines.result c.allocated.result c.in-Ok.ensures.answer
    (search rules) c.name_lines.ensures c.allocated.ensures
