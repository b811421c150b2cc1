-- Closes both arms: a number of more than 64 bits is above 2 to 63.
use Rattle.std.proofs.Common.{◌∙◌, ap}
use Rattle.std.specs.Prelude.{min, ◌^◌}
use Rattle.wat_tokens.proofs.Hexadecimal.{power_ok, power_err}
use Rattle.wat_tokens.proofs.floats.power_in.Goals as goal

pub returns-in-Ok : goal.returns-in-Ok
returns-in-Ok c = c.min.ensures ∙ ap (λ v. min v (2 ^ 63)) (power_ok c.args.digits.now c.in-Ok.power c.requires c.in-Ok.ensures)

pub returns-in-Err : goal.returns-in-Err
returns-in-Err c = power_err c.args.digits.now c.in-Err.field-0 c.requires c.in-Err.ensures
