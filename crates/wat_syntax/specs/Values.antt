-- Numbers, strings, names and ids (text format: values), and indices (text format: indices). What a number or a string means is
-- said in wat_grammar; here it is that of the next token.
use Rattle.std.specs.Prelude.{ℕ, ◌==◌, ◌||◌, Bool, true, false, if◌then◌else◌, List, [], ◌∷◌, Option, None, Some}
use Rattle.std.specs.Int.{is_in_range}
use Rattle.std.specs.Str.{is_utf8}
use Rattle.std.specs.Borrow.{Bor}
use Rattle.wast_base.specs.Ids.{source_id}
use Rattle.wat_syntax.specs.Tree.{Span, Id, Index, NameAnnotation}
use Rattle.wast_base.specs.declared.ids.Index.TheVariants as by
use Rattle.wat_grammar.specs.Parts.{◌>>=◌}
use Rattle.wat_grammar.specs.Integers.{uN}
use Rattle.wat_tokens.specs.declared.tokens.Token.{Token}
use Rattle.wat_tokens.specs.declared.tokens.Token.TheVariants as token
use Rattle.wat_tokens.specs.declared.tokens.Annotation.{Annotation}
use Rattle.wat_tokens.specs.declared.tokens.Annotation.TheVariants as annotation
use Rattle.wat_syntax.specs.Tokens.{Toks, Parse, peek, after, position, rparen}

-- A text of these bytes at address 0. A `&str` in a definition has an address beside its bytes, and `≡` compares both. Each text in the
-- tokens that the rules read is at address 0 (Bare), so what the rules make of them has no other address either.
abbrev pub text_of : List ℕ → Bor (List ℕ)
text_of bytes = record { ref_ptr = (0, 0); now = bytes }

-- the text of a token that can be a number
abbrev pub number_in : Option Token → Option (Bor (List ℕ))
number_in (Some (token.Other text)) = Some text
number_in t = None

-- the text of a number
abbrev pub number_text : Toks → Parse (Bor (List ℕ))
number_text toks = number_in (peek 0 toks) >>= λ text. Some (text, after toks)

-- a number, by what its text means
abbrev pub number : {T : Type 0} → (List ℕ → Option T) → Toks → Parse T
number value toks = number_text toks >>= λ text. value text.0.now >>= λ n. Some (n, text.1)

-- u32
abbrev pub u32 : Toks → Parse ℕ
u32 toks = number (uN 32) toks

-- u64
abbrev pub u64 : Toks → Parse ℕ
u64 toks = number (uN 64) toks

-- whether a text begins as a number does, with a digit or a sign
abbrev pub begins_number : List ℕ → Bool
begins_number [] = false
begins_number (c ∷ cs) = is_in_range 0x30 0x39 c || (c == 0x2b || c == 0x2d)

-- whether a token begins as a number does
abbrev pub is_number : Option Token → Bool
is_number (Some (token.Other text)) = begins_number text.now
is_number t = false

-- the bytes of a string
abbrev pub string_in : Option Token → Option (Bor (List ℕ))
string_in (Some (token.String bytes)) = Some bytes
string_in t = None

-- string
abbrev pub string : Toks → Parse (Bor (List ℕ))
string toks = string_in (peek 0 toks) >>= λ bytes. Some (bytes, after toks)

-- whether a token is a string
abbrev pub is_string : Option Token → Bool
is_string (Some (token.String bytes)) = true
is_string t = false

-- name ::= b*:string ⇒ c*, if b* = utf8(c*)
abbrev pub name : Toks → Parse (Bor (List ℕ))
name toks = string toks >>= λ b. if is_utf8 b.0.now then Some (text_of b.0.now, b.1) else None

-- the id that a token at a position is
abbrev pub id_in : Option Token → Span → Option Id
id_in (Some (token.Id name)) span = Some (source_id name span)
id_in t span = None

-- id
abbrev pub id : Toks → Parse Id
id toks = id_in (peek 0 toks) (position toks) >>= λ x. Some (x, after toks)

-- the annotation that a token begins
abbrev pub annotation_of : Option Token → Option Annotation
annotation_of (Some (token.Annotation a)) = Some a
annotation_of t = None

-- whether a token is '(@name'
abbrev pub is_name : Option Annotation → Bool
is_name (Some annotation.Name) = true
is_name a = false

-- '(@name' name ')', or nothing (custom annotations: name annotations)
abbrev pub name_annotation : Toks → Parse (Option NameAnnotation)
name_annotation toks = elim (is_name (annotation_of (peek 0 toks))) [
  | true ↦ name (after toks) >>= λ n. rparen n.1 >>= λ rest. Some (Some (record { name = n.0 }), rest)
  | false ↦ Some (None, toks)
]

-- index ::= x:u32 ⇒ x | v:id ⇒ v. The identifier context of the specification makes a number of an id; here that is done by
-- resolving. So typeidx, funcidx and the others are one rule.
abbrev pub index : Toks → Parse Index
index toks = elim (id toks) [
  | Some x ↦ Some (by.Id x.0, x.1)
  | None ↦ u32 toks >>= λ n. Some (by.Num n.0 (position toks), n.1)
]

-- whether a token begins an index
abbrev pub is_index : Option Token → Bool
is_index (Some (token.Id name)) = true
is_index t = is_number t

-- an index that may be left out
abbrev pub optional_index : Toks → Parse (Option Index)
optional_index toks = elim (is_index (peek 0 toks)) [ true ↦ index toks >>= λ x. Some (Some x.0, x.1) | false ↦ Some (None, toks) ]

-- An index that is 0 if it is left out (text format: abbreviations of plain instructions): at the position of the token before,
-- as in `wast`.
abbrev pub index_or_zero : Toks → Parse Index
index_or_zero toks = elim (is_index (peek 0 toks)) [ true ↦ index toks | false ↦ Some (by.Num 0 toks.before, toks) ]
