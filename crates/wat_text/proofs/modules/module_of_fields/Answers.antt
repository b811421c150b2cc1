-- The goal of `module_of_fields` that tactics leave open, closed by lemmas of Endings.
use Rattle.wat_text.specs.Readers.{left}
use Rattle.wat_text.proofs.Endings.{module_err}
use Rattle.wat_text.proofs.modules.module_of_fields.Goals as goal

pub returns-in-Err : goal.returns-in-Err
returns-in-Err c = module_err c.args.span c.args.head (left c.args.reader) c.is_some.result c.args.reader c.in-Err.fault c.is_some.ensures c.in-Err.ensures
