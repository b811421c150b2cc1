-- Closes the call and both arms: the lemmas say that the sign is above the bits, and what the rules give.
use Rattle.std.specs.Float.{binary32}
use Rattle.wat_grammar.specs.Floats.{magnitude}
use Rattle.wat_tokens.proofs.SignedFloats.{below_sign}
use Rattle.wat_tokens.proofs.floats.float32.Goals as goal

pub with_sign32-requires : goal.with_sign32-requires
with_sign32-requires c = below_sign binary32 (magnitude c.cut_sign-is_negative.result.rest.now) c.in-Ok.bits c.in-Ok.ensures.value
