-- Tokens for examples. The token of number n is at position n.
use Rattle.std.specs.Prelude.{ℕ, suc, List, [], ◌∷◌, length, Option, Some}
use Rattle.wast_base.specs.Ids.{text_start}
use Rattle.wat_grammar.specs.Parts.{◌>>=◌}
use Rattle.wat_tokens.specs.declared.words.Key.{Key}
use Rattle.wat_tokens.specs.declared.words.Word.TheVariants as word
use Rattle.wat_tokens.specs.declared.tokens.Token.{Token}
use Rattle.wat_tokens.specs.declared.tokens.Token.TheVariants as token
use Rattle.wat_tokens.specs.declared.tokens.Placed.{Placed}
use Rattle.wat_syntax.specs.Tokens.{Toks, Parse, count}
use Rattle.wat_syntax.specs.Values.{text_of}

-- the token of a keyword
abbrev pub the : Key → Token
the k = token.Word (word.Key k) (text_of [])

-- the token of a number, and of an id
abbrev pub num : List ℕ → Token
num text = token.Other (text_of text)

abbrev pub named : List ℕ → Token
named text = token.Id (text_of text)

abbrev pub quoted : List ℕ → Token
quoted text = token.String (text_of text)

-- tokens from a position on, one character each
abbrev pub placed : ℕ → List Token → List Placed
placed n [] = []
placed n (t ∷ ts) = record { token = t; span = record { offset = n } } ∷ placed (suc n) ts

-- a text of these tokens
abbrev pub toks : List Token → Toks
toks ts = record { before = text_start; left = placed 0 ts; end = record { offset = length ts } }

-- what a rule makes of tokens, and how many tokens are left
abbrev pub made : {T : Type 0} → Parse T → Option (T × ℕ)
made result = result >>= λ x. Some (x.0, count x.1)
