-- What the rules make of tokens: each side of an equation computes to the other.
use Rattle.std.proofs.Common.{refl}
use Rattle.wat_grammar.specs.Integers.{backwards}
use Rattle.wat_syntax.specs.Tokens.{peek, after, position, count}
use Rattle.wat_syntax.specs.WorkedBodies.{Folds, Blocks, Hints, Tries, Fields}

pub folds : Folds
unfolding backwards peek after position count
folds = (refl, refl, refl, refl, refl)

pub blocks : Blocks
unfolding backwards peek after position count
blocks = (refl, refl, refl, refl, refl)

pub fields : Fields
unfolding backwards peek after position count
fields = (refl, refl, refl, refl)

pub hints : Hints
unfolding backwards peek after position count
hints = (refl, refl, refl, refl)

pub tries : Tries
unfolding backwards peek after position count
tries = (refl, refl, refl)
