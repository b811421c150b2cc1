-- Tokens at addresses, and without: each side of an equation computes to the other.
use Rattle.std.proofs.Common.{refl}
use Rattle.wat_grammar.specs.Integers.{backwards}
use Rattle.wat_grammar.specs.Strings.{elements}
use Rattle.wat_grammar.specs.Tokens.{string_length, parts}
use Rattle.wat_tokens.specs.Words.{words}
use Rattle.wat_syntax.specs.Tokens.{peek, after, position, count}
use Rattle.wat_syntax.specs.WorkedBare.{Addresses, Texts}

pub addresses : Addresses
unfolding backwards peek after position count
addresses = (refl, refl, refl, refl, refl)

pub texts : Texts
unfolding parts string_length elements words
texts = (refl, refl, refl)
