-- Closes both arms: the lemmas say what the rules make of the bits and of the fault.
use Rattle.std.proofs.Common.{refl}
use Rattle.std.specs.Int.{w32, cast_signed, cast_unsigned}
use Rattle.wat_tokens.proofs.TwosComplement.{ok_integer, err_integer, interpreted32}
use Rattle.wat_tokens.proofs.integers.integer32.Goals as goal

pub returns-in-Ok : goal.returns-in-Ok
returns-in-Ok c = ok_integer 32 2147483647 refl refl c.args.text.now c.in-Ok.bits
    (cast_signed w32 (cast_unsigned w32 c.cast_signed.result)) c.in-Ok.ensures.value
    (interpreted32 c.in-Ok.bits c.cast_signed.result c.in-Ok.ensures.below c.cast_signed.ensures)

pub returns-in-Err : goal.returns-in-Err
returns-in-Err c = err_integer 32 2147483647 refl refl c.args.text.now c.in-Err.fault c.in-Err.ensures.value
