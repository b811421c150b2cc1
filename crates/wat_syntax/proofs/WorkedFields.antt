-- What the rules make of tokens: each side of an equation computes to the other.
use Rattle.std.proofs.Common.{refl}
use Rattle.std.specs.Str.{is_utf8, chars}
use Rattle.wat_grammar.specs.Integers.{backwards}
use Rattle.wat_syntax.specs.Tokens.{peek, after, position, count}
use Rattle.wat_syntax.specs.WorkedFields.{Functions, Tables, Memories, Globals, Elements, Bytes}

pub functions : Functions
unfolding backwards peek after position count is_utf8 chars
functions = (refl, refl, refl)

pub tables : Tables
unfolding backwards peek after position count
tables = (refl, refl, refl, refl)

pub memories : Memories
unfolding backwards peek after position count
memories = (refl, refl, refl)

pub globals : Globals
unfolding backwards peek after position count is_utf8 chars
globals = (refl, refl)

pub elements : Elements
unfolding backwards peek after position count
elements = (refl, refl, refl, refl, refl)

pub bytes : Bytes
unfolding backwards peek after position count
bytes = (refl, refl, refl)
