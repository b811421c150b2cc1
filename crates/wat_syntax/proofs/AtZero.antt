-- The tokens of the code without addresses are those of the text at address 0.
use Rattle.std.proofs.Common.{◌≡◌, ◌∙◌, ℕ, suc, List, [], ◌∷◌, map, All, Option, Some, refl, ap, arith}
use Rattle.wat_grammar.specs.Parts.{◌>>=◌}
use Rattle.wat_grammar.specs.Tokens as grammar
use Rattle.wat_tokens.specs.Scans.{id_of, seen, seen_all, IsNamed}
use Rattle.wat_tokens.specs.declared.tokens.Annotation.{Annotation}
use Rattle.wat_tokens.specs.declared.tokens.Annotation.TheVariants as annotation
use Rattle.wat_tokens.specs.declared.tokens.Token.{Token}
use Rattle.wat_tokens.specs.declared.tokens.Token.TheVariants as token
use Rattle.wat_tokens.specs.declared.tokens.Placed.{Placed}
use Rattle.wat_syntax.specs.Bare.{bare_token, bare_placed}
use Rattle.wat_syntax.specs.AtZero.{annotation_named, word_or_other, at_zero, all_at_zero, tokens_at_zero}

annotation_same : (a : Annotation) → annotation_named (id_of a) ≡ Some a
annotation_same annotation.Name = refl
annotation_same x = refl

one_at_zero : (t : Token) → IsNamed t → at_zero (seen t) ≡ Some (bare_token t)
one_at_zero (token.Annotation a) is = ap (λ o. o >>= λ x. Some (token.Annotation x)) (annotation_same a)
one_at_zero (token.Word w text) is = ap (λ o. Some (word_or_other o text.now)) is
one_at_zero (token.Other text) is = ap (λ o. Some (word_or_other o text.now)) is
one_at_zero x is = refl

found_at_zero : (found : List Placed) → All (λ p. IsNamed p.token) found → all_at_zero (seen_all found) ≡ Some (map bare_placed found)
found_at_zero [] named = refl
found_at_zero (p ∷ ps) named =
    let rest = found_at_zero ps (λ k d under. named (suc k) d (omega (arith, under))) in
    λ i. one_at_zero p.token (named 0 p (omega arith)) i >>= λ t. rest i >>= λ xs. Some (record { token = t; span = record { offset = p.span.offset } } ∷ xs)

pub bare_tokens : (text : List ℕ) (found : List Placed) → grammar.tokens grammar.bytes_of text ≡ Some (seen_all found) → All (λ p. IsNamed p.token) found
    → tokens_at_zero text ≡ Some (map bare_placed found)
bare_tokens text found lexed named = ap (λ (o : Option (List grammar.Placed)). o >>= λ ts. all_at_zero ts) lexed ∙ found_at_zero found named
