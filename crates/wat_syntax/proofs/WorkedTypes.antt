-- What the rules make of tokens: each side of an equation computes to the other.
use Rattle.std.proofs.Common.{refl}
use lib.Count.{ones, count_trailing_zeros}
use Rattle.wat_grammar.specs.Integers.{backwards}
use Rattle.wat_syntax.specs.Tokens.{peek, after, position, count}
use Rattle.wat_syntax.specs.WorkedTypes.{Values, References, Composites, Externals}

pub values : Values
unfolding backwards peek after position count
values = (refl, refl, refl, refl, refl, refl, refl, refl, refl, refl)

pub references : References
unfolding backwards peek after position count
references = (refl, refl, refl, refl, refl, refl, refl, refl, refl, refl)

pub composites : Composites
unfolding backwards peek after position count
composites = (refl, refl, refl, refl, refl, refl, refl, refl, refl)

pub externals : Externals
unfolding backwards peek after position count ones count_trailing_zeros
externals = (refl, refl, refl, refl, refl, refl, refl, refl, refl)
