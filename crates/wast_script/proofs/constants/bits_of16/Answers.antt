-- The goal of `bits_of16` that tactics leave open, closed by a lemma of Bits.
use Rattle.std.proofs.Common.{sym}
use Rattle.wast_script.proofs.Bits.{bits_not}
use Rattle.wast_script.proofs.constants.bits_of16.Goals as goal

pub returns-in-Err-clause-refuses : goal.returns-in-Err-clause-refuses
returns-in-Err-clause-refuses c = λ r. bits_not 16 c.args.text.now c.in-Err.fault (sym c.in-Err.ensures)
