-- The places of the bytes of strings: each side of an equation computes to the other.
use Rattle.std.proofs.Common.{[], ◌∷◌, refl}
use Rattle.std.specs.Char.{encode_utf8}
use Rattle.wat_grammar.specs.Integers.{backwards}
use Rattle.wat_grammar.specs.Strings.{braced}
use Rattle.wat_tokens.specs.Strings.{spelled}
use Rattle.wat_tokens.specs.WorkedStrings.{Places}

pub places : Places
unfolding spelled backwards braced encode_utf8
places = (refl, refl, refl, refl, refl, refl, refl, refl, record { bytes = 0x0a ∷ []; reads = refl; places = refl })
