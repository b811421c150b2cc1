-- What the rules compute of texts: each side of an equation computes to the other.
use Rattle.std.proofs.Common.{refl}
use Rattle.std.specs.Float.{float_is_finite}
use Rattle.std.specs.Float.Ieee.{round, to_bits}
use Rattle.wat_grammar.specs.Integers.{backwards}
use Rattle.wat_grammar.specs.Floats.{cut, fraction}
use Rattle.wat_grammar.specs.WorkedFloats.{Fractions, Decimals, NoDecimals, Hexadecimals, Magnitudes, Singles, Specials, Doubles}

pub fractions : Fractions
unfolding fraction
fractions = (refl, refl, refl, refl, refl, refl, refl, refl)

pub decimals : Decimals
unfolding backwards cut fraction
decimals = (refl, refl, refl, refl, refl, refl)

pub no_decimals : NoDecimals
unfolding backwards cut fraction
no_decimals = (refl, refl, refl, refl, refl, refl, refl, refl, refl, refl, refl, refl)

pub hexadecimals : Hexadecimals
unfolding backwards cut fraction
hexadecimals = (refl, refl, refl, refl, refl, refl, refl)

pub magnitudes : Magnitudes
unfolding backwards cut fraction
magnitudes = (refl, refl, refl, refl, refl, refl, refl, refl, refl, refl, refl)

pub singles : Singles
unfolding backwards cut fraction round to_bits float_is_finite
singles = (refl, refl, refl, refl, refl, refl, refl, refl, refl, refl, refl)

pub specials : Specials
unfolding backwards cut fraction round to_bits float_is_finite
specials = (refl, refl, refl, refl, refl, refl, refl)

pub doubles : Doubles
unfolding backwards cut fraction round to_bits float_is_finite
doubles = (refl, refl, refl, refl)
