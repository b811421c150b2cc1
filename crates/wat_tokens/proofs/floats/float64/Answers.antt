-- Closes the call and both arms: the lemmas say that the sign is above the bits, and what the rules give.
use Rattle.std.specs.Float.{binary64}
use Rattle.wat_grammar.specs.Floats.{magnitude}
use Rattle.wat_tokens.proofs.SignedFloats.{below_sign}
use Rattle.wat_tokens.proofs.floats.float64.Goals as goal

pub with_sign64-requires : goal.with_sign64-requires
with_sign64-requires c = below_sign binary64 (magnitude c.cut_sign-is_negative.result.rest.now) c.in-Ok.bits c.in-Ok.ensures.value
