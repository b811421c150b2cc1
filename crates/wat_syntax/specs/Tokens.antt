-- The tokens that are left, and the words in which the rules are written (text format: conventions).
--
-- A rule is a function of the tokens that are left. It returns what the tokens mean and the tokens after them, and `None` if the
-- rule does not produce them. `rule toks >>= λ x. ..` names what a rule returns: x.0 is what it means, and x.1 are the tokens
-- after it. A terminal such as `)` means nothing by itself, so its rule returns the tokens after it alone.
--
--   rparen      of the tokens of `) end`    Some (the tokens of `end`)
--   rparen      of the tokens of `end`      None
use Rattle.std.specs.Prelude.{ℕ, zero, suc, Bool, true, false, ◌&&◌, List, [], ◌∷◌, ◌++◌, length, drop, Option, None, Some}
use Rattle.wast_base.specs.declared.ids.Span.{Span}
use Rattle.wat_grammar.specs.Parts.{◌>>=◌}
use Rattle.wat_tokens.specs.declared.words.Key.{Key}
use Rattle.wat_tokens.specs.declared.words.Word.{Word}
use Rattle.wat_tokens.specs.declared.words.Word.TheVariants as word
use Rattle.wat_tokens.specs.declared.tokens.Token.{Token}
use Rattle.wat_tokens.specs.declared.tokens.Token.TheVariants as token
use Rattle.wat_tokens.specs.declared.tokens.Placed.{Placed}
use Rattle.wat_syntax.specs.Keywords.{is_same_key}

-- The tokens that are left. An index that the text leaves out is 0, at the position of the token before, so that position is
-- kept as well. After the last token, the position is the end of the text.
pub record Toks : Type 0 where
  pub before : Span
  pub left : List Placed
  pub end : Span

-- what a rule returns: what the tokens mean, and the tokens after them
abbrev pub Parse : Type 0 → Type 0
Parse T = Option (T × Toks)

-- the position of the first token of a list, or this one if it is empty
abbrev pub position_in : List Placed → Span → Span
position_in [] end = end
position_in (p ∷ ps) end = p.span

-- the position of the next token, or the end of the text
unfoldable pub position : Toks → Span
position toks = position_in toks.left toks.end

-- the first token of a list
abbrev pub first : List Placed → Option Token
first [] = None
first (p ∷ ps) = Some p.token

-- the token after so many others: the next one is after 0 others
unfoldable pub peek : ℕ → Toks → Option Token
peek n toks = first (drop n toks.left)

abbrev pub after_first : List Placed → Toks → Toks
after_first [] toks = toks
after_first (p ∷ ps) toks = record { before = p.span; left = ps; end = toks.end }

-- the tokens after the next one
unfoldable pub after : Toks → Toks
after toks = after_first toks.left toks

-- how many tokens are left
unfoldable pub count : Toks → ℕ
count toks = length toks.left

-- whether a token is '('
abbrev pub is_lparen : Option Token → Bool
is_lparen (Some token.Open) = true
is_lparen t = false

-- whether a token is ')'
abbrev pub is_rparen : Option Token → Bool
is_rparen (Some token.Close) = true
is_rparen t = false

-- whether a form or the text ends there
abbrev pub is_end : Option Token → Bool
is_end None = true
is_end (Some token.Close) = true
is_end t = false

-- the word that a token is
abbrev pub word_of : Option Token → Option Word
word_of (Some (token.Word w name)) = Some w
word_of t = None

-- the keyword that a token is
abbrev pub key_of : Option Token → Option Key
key_of (Some (token.Word (word.Key k) name)) = Some k
key_of t = None

-- whether a keyword is this one
abbrev pub is_key : Key → Option Key → Bool
is_key k None = false
is_key k (Some found) = is_same_key found k

-- '('
abbrev pub lparen : Toks → Option Toks
lparen toks = elim (is_lparen (peek 0 toks)) [ true ↦ Some (after toks) | false ↦ None ]

-- ')'
abbrev pub rparen : Toks → Option Toks
rparen toks = elim (is_rparen (peek 0 toks)) [ true ↦ Some (after toks) | false ↦ None ]

-- a keyword
abbrev pub keyword : Key → Toks → Option Toks
keyword k toks = elim (is_key k (key_of (peek 0 toks))) [ true ↦ Some (after toks) | false ↦ None ]

-- whether '(' and this keyword are next
abbrev pub is_form : Key → Toks → Bool
is_form k toks = is_lparen (peek 0 toks) && is_key k (key_of (peek 1 toks))

-- '(' and a keyword
abbrev pub form : Key → Toks → Option Toks
form k toks = elim (is_form k toks) [ true ↦ Some (after (after toks)) | false ↦ None ]

-- a keyword that means something, by what each keyword means
abbrev pub keyword_in : {T : Type 0} → (Key → Option T) → Toks → Parse T
keyword_in meaning toks = key_of (peek 0 toks) >>= λ k. meaning k >>= λ x. Some (x, after toks)

-- A?: if the rule produces nothing, no token is taken
abbrev pub optional : {T : Type 0} → (Toks → Parse T) → Toks → Parse (Option T)
optional rule toks = elim (rule toks) [ Some x ↦ Some (Some x.0, x.1) | None ↦ Some (None, toks) ]

-- a terminal that may be left out: whether it is there
abbrev pub is_there : (Toks → Option Toks) → Toks → Parse Bool
is_there rule toks = elim (rule toks) [ Some rest ↦ Some (true, rest) | None ↦ Some (false, toks) ]

-- A*: as many parts as there are, one after another, and so many at most. A part is there if `is_next` is true of the tokens.
abbrev pub many : {T : Type 0} → (Toks → Bool) → (Toks → Parse T) → ℕ → Toks → Parse (List T)
many is_next part zero toks = Some ([], toks)
many is_next part (suc n) toks = elim (is_next toks) [
  | true ↦ part toks >>= (λ x. many is_next part n x.1 >>= λ xs. Some (x.0 ∷ xs.0, xs.1))
  | false ↦ Some ([], toks)
]

-- parts before those that a rule reads: so a rule is said that has read some of its parts
abbrev pub with_parts : {T : Type 0} → List T → Parse (List T) → Parse (List T)
with_parts xs rest = rest >>= λ ys. Some (xs ++ ys.0, ys.1)

-- one part, as a list of parts
abbrev pub one : {T : Type 0} → (Toks → Parse T) → Toks → Parse (List T)
one part toks = part toks >>= λ x. Some (x.0 ∷ [], x.1)

-- The same for a part that is a list: (param*)* is the parameters of all forms, one after another.
abbrev pub many_lists : {T : Type 0} → (Toks → Bool) → (Toks → Parse (List T)) → ℕ → Toks → Parse (List T)
many_lists is_next part zero toks = Some ([], toks)
many_lists is_next part (suc n) toks = elim (is_next toks) [
  | true ↦ part toks >>= (λ x. many_lists is_next part n x.1 >>= λ xs. Some (x.0 ++ xs.0, xs.1))
  | false ↦ Some ([], toks)
]
