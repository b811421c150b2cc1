-- The two lists of opcodes, by computation.
use Rattle.std.proofs.Common.{refl}
use Rattle.unit_tests.specs.StandardOpcodes.{AreStandard, standard}

pub are_standard : AreStandard
unfolding standard
are_standard = refl
