-- The tokens of a text, with each text at address 0.
--
-- The rules of wat_grammar cut a text into tokens that have their bytes alone. The rules of this crate read tokens of the code, which
-- also have an address, and of a word with a meaning, what it means. Here such tokens are made of those of wat_grammar, at address 0. So
-- a text has these tokens once, whatever code has read it.
--
--   "(start 0)"      `(`, the word `start`, `0` and `)`, at the positions 0, 1, 7 and 8
--   "a["             None, because `[` begins no token
use Rattle.std.specs.Prelude.{ℕ, bytes_eq, if◌then◌else◌, List, [], ◌∷◌, Option, None, Some}
use Rattle.wat_grammar.specs.Parts.{◌>>=◌}
use Rattle.wat_grammar.specs.Tokens as grammar
use Rattle.wat_tokens.specs.Scans.{id_of}
use Rattle.wat_tokens.specs.Words.{word_named}
use Rattle.wat_tokens.specs.declared.words.Word.{Word}
use Rattle.wat_tokens.specs.declared.tokens.Annotation.{Annotation}
use Rattle.wat_tokens.specs.declared.tokens.Annotation.TheVariants as annotation
use Rattle.wat_tokens.specs.declared.tokens.Token.{Token}
use Rattle.wat_tokens.specs.declared.tokens.Token.TheVariants as token
use Rattle.wat_tokens.specs.declared.tokens.Placed.{Placed}
use Rattle.wat_syntax.specs.Values.{text_of}

-- the annotation of this id, if it has a meaning
abbrev pub annotation_named : List ℕ → Option Annotation
annotation_named id =
    if bytes_eq id (id_of annotation.Name) then Some annotation.Name else (if bytes_eq id (id_of annotation.Custom) then Some annotation.Custom else
    (if bytes_eq id (id_of annotation.Producers) then Some annotation.Producers else
    (if bytes_eq id (id_of annotation.Dylink0) then Some annotation.Dylink0 else
    (if bytes_eq id (id_of annotation.BranchHint) then Some annotation.BranchHint else None))))

-- a word with a meaning, or another one
abbrev pub word_or_other : Option Word → List ℕ → Token
word_or_other (Some w) text = token.Word w (text_of text)
word_or_other None text = token.Other (text_of text)

-- a token of wat_grammar, as the code has it: none is made of an annotation without a meaning
abbrev pub at_zero : grammar.Token → Option Token
at_zero grammar.Open = Some token.Open
at_zero grammar.Close = Some token.Close
at_zero (grammar.Annotation id) = annotation_named id >>= λ a. Some (token.Annotation a)
at_zero (grammar.Word text) = Some (word_or_other (word_named text) text)
at_zero (grammar.Id name) = Some (token.Id (text_of name))
at_zero (grammar.String bytes) = Some (token.String (text_of bytes))

-- all tokens, each at its position
abbrev pub all_at_zero : List grammar.Placed → Option (List Placed)
all_at_zero [] = Some []
all_at_zero (p ∷ ps) = at_zero p.0 >>= λ t. all_at_zero ps >>= λ xs. Some (record { token = t; span = record { offset = p.1 } } ∷ xs)

-- the tokens of a text
abbrev pub tokens_at_zero : List ℕ → Option (List Placed)
tokens_at_zero text = grammar.tokens grammar.bytes_of text >>= λ found. all_at_zero found
