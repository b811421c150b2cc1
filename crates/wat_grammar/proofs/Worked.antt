-- What the rules compute of texts: each side of an equation computes to the other.
use Rattle.std.proofs.Common.{refl}
use Rattle.std.specs.Char.{encode_utf8}
use Rattle.wat_grammar.specs.Integers.{backwards}
use Rattle.std.specs.Str.{is_utf8, chars}
use Rattle.wat_grammar.specs.Space.{blockcomment}
use Rattle.wat_grammar.specs.Strings.{braced, elements}
use Rattle.wat_grammar.specs.Tokens.{string_length, skipped, parts}
use Rattle.wat_grammar.specs.WorkedIntegers.{Digits, Numbers, Naturals, Unsigned, Signed, Integers, SignBefore}
use Rattle.wat_grammar.specs.WorkedStrings.{Escapes, Strings}
use Rattle.wat_grammar.specs.WorkedTokens.{Comments, Places, Quoted, Annotations}

pub digits : Digits
digits = (refl, refl, refl, refl, refl)

pub numbers : Numbers
unfolding backwards
numbers = (refl, refl, refl, refl, refl, refl, refl)

pub naturals : Naturals
unfolding backwards
naturals = (refl, refl, refl, refl, refl, refl)

pub unsigned : Unsigned
unfolding backwards
unsigned = (refl, refl, refl, refl)

pub signed : Signed
unfolding backwards
signed = (refl, refl, refl, refl, refl, refl, refl)

pub integers : Integers
unfolding backwards
integers = (refl, refl, refl, refl, refl, refl, refl, refl, refl, refl)

pub sign_before : SignBefore
unfolding backwards
sign_before = (refl, refl, refl, refl, refl)

pub escapes : Escapes
unfolding backwards braced encode_utf8
escapes = (refl, refl, refl, refl, refl, refl, refl, refl, refl, refl, refl, refl)

pub strings : Strings
unfolding elements
strings = (refl, refl, refl, refl, refl, refl, refl)

pub comments : Comments
unfolding blockcomment
comments = (refl, refl, refl, refl, refl, refl)

pub places : Places
unfolding parts blockcomment
places = (refl, refl, refl, refl, refl, refl, refl, refl)

pub quoted : Quoted
unfolding parts string_length elements is_utf8 chars encode_utf8
quoted = (refl, refl, refl, refl, refl, refl, refl, refl, refl)

pub annotations : Annotations
unfolding parts skipped blockcomment
annotations = (refl, refl, refl, refl, refl)
