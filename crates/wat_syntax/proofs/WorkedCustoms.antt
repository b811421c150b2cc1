-- What the rules make of tokens: each side of an equation computes to the other.
use Rattle.std.proofs.Common.{refl}
use Rattle.wat_grammar.specs.Integers.{backwards}
use Rattle.wat_syntax.specs.Tokens.{peek, after, position, count}
use Rattle.wat_syntax.specs.WorkedCustoms.{Places, Tools, Linking, Fields}

pub places : Places
unfolding backwards peek after position count
places = (refl, refl, refl, refl, refl, refl, refl, refl, refl)

pub tools : Tools
unfolding backwards peek after position count
tools = (refl, refl, refl, refl, refl)

pub linking : Linking
unfolding backwards peek after position count
linking = (refl, refl, refl, refl, refl)

pub fields : Fields
unfolding backwards peek after position count
fields = (refl, refl, refl)
