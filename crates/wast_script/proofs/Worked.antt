-- The examples of specs/Worked, by computation.
use Rattle.std.proofs.Common.{refl}
use Rattle.wat_grammar.specs.Integers.{backwards}
use Rattle.wat_grammar.specs.Strings.{elements}
use Rattle.std.specs.Char.{encode_utf8}
use Rattle.std.specs.Str.{is_utf8, chars}
use Rattle.wat_grammar.specs.Tokens.{string_length, parts}
use Rattle.wat_tokens.specs.Words.{words}
use Rattle.wat_syntax.specs.Tokens.{peek, after, position, count}
use Rattle.wast_script.specs.Grammar.{script_of}
use Rattle.wast_script.specs.Worked.{Values, Modules, Scripts}

pub values : Values
unfolding backwards peek after position count
values = (refl, refl, refl, refl, refl, refl, refl, refl)

pub modules : Modules
unfolding peek after position count
modules = (refl, refl)

pub scripts : Scripts
unfolding script_of backwards elements string_length is_utf8 chars encode_utf8 parts words peek after position count
scripts = (refl, refl, refl, refl, refl, refl, refl)
