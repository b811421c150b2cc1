-- Texts and their modules: each side of an equation computes to the other.
use Rattle.std.proofs.Common.{refl}
use Rattle.std.specs.Char.{encode_utf8}
use Rattle.std.specs.Str.{is_utf8, chars}
use Rattle.wat_grammar.specs.Integers.{backwards}
use Rattle.wat_grammar.specs.Strings.{braced, elements}
use Rattle.wat_grammar.specs.Space.{blockcomment}
use Rattle.wat_grammar.specs.Tokens.{string_length, parts}
use Rattle.wat_tokens.specs.Strings.{spelled}
use Rattle.wat_tokens.specs.Words.{words}
use Rattle.wat_syntax.specs.Tokens.{peek, after, position, count}
use Rattle.wat_text.specs.Denotes.{module_of}
use Rattle.wat_text.specs.WorkedDenotes.{Modules, Binaries, InQuotes, Positions, Openings, Denoted}

pub modules : Modules
unfolding module_of backwards parts words peek after position count
modules = (refl, refl, refl, refl, refl, refl, refl, refl, refl, refl, refl)

pub binaries : Binaries
unfolding module_of backwards parts string_length elements words peek after position count
binaries = (refl, refl, refl)

pub in_quotes : InQuotes
unfolding module_of backwards parts string_length braced elements spelled blockcomment is_utf8 chars encode_utf8 words peek after position count
in_quotes = (refl, refl, refl, refl, refl, refl, refl, refl, refl)

pub positions : Positions
unfolding spelled
positions = (refl, refl, refl, refl, refl, refl, refl, refl, refl)

pub openings : Openings
unfolding backwards peek after position count
openings = (refl, refl, refl, refl, refl, refl, refl, refl, refl, refl, refl)

pub denoted : Denoted
unfolding module_of backwards parts words peek after position count
denoted = (refl, (λ address. refl), refl, refl)
