-- Which module a text is, if it is one (text format: modules; test scripts: modules).
--
-- The rules of wat_grammar cut a text into tokens, and those of wat_syntax read the fields of a module from tokens. This file has
-- the rules of a whole module, which must take all tokens.
--
--   (module $m (start 0))                   a module with the id $m and one field
--   (start 0)                               a module without an id, with one field
--   (module binary "\00asm" "\01\00\00\00") a binary module of two pieces
--   (module quote "(start" " 0)")           the module of the text `(start 0)`
--   (start 0) x                             no module, because a token is left
--
-- The tokens of a text are without addresses here, and so is its module: each text in them is at address 0 (Bare and AtZero in
-- wat_syntax). So a text has one module at most, which `module_of` computes. What the code reads has addresses, and is the module if it
-- is so without them (Denotes).
use Rattle.std.specs.Prelude.{◌≡◌, ℕ, ◌==◌, ◌&&◌, not, Bool, true, false, List, [], ◌∷◌, length, map}
use Rattle.std.specs.Prelude.{drop, replicate, flat_map, slice_get, Option, None, Some, is_some}
use Rattle.std.specs.Option.{option_or, unwrap_or}
use Rattle.std.specs.Str.{is_utf8}
use Rattle.std.specs.Borrow.{Bor}
use Rattle.wast_base.specs.Ids.{text_start}
use Rattle.wat_grammar.specs.Parts.{◌>>=◌}
use Rattle.wat_tokens.specs.Strings.{string_places}
use Rattle.wat_tokens.specs.declared.tokens.Placed.{Placed}
use Rattle.wat_tokens.specs.declared.words.Key.{Key}
use Rattle.wat_tokens.specs.declared.words.Key.TheVariants as key
use Rattle.wat_syntax.specs.Tree.{Span, ModuleField}
use Rattle.wat_syntax.specs.Tree.field
use Rattle.wat_syntax.specs.Tokens.{Toks, Parse, peek, after, position, position_in, count, key_of, rparen, form, optional, many}
use Rattle.wat_syntax.specs.Values.{id, name_annotation, string}
use Rattle.wat_syntax.specs.Types.{goes_on}
use Rattle.wat_syntax.specs.Customs.{strings}
use Rattle.wat_syntax.specs.ModuleFields.{modulefields}
use Rattle.wat_syntax.specs.Bare.{bare_text, bare_name_option, bare_id_option, bare_placed}
use Rattle.wat_syntax.specs.BareFields.{bare_fields}
use Rattle.wat_syntax.specs.AtZero.{tokens_at_zero}
use Rattle.wat_text.specs.Texts.{is_well_formed_text}
use Rattle.wat_text.specs.declared.modules.ModuleHead.{ModuleHead}
use Rattle.wat_text.specs.declared.modules.TextKind.{TextKind}
use Rattle.wat_text.specs.declared.modules.TextKind.TheVariants as kind
use Rattle.wat_text.specs.declared.modules.TextModule.{TextModule}
use Rattle.wat_text.specs.declared.quotes.Quote.{Quote}

-- modules without addresses
abbrev pub bare_kind : TextKind → TextKind
bare_kind (kind.Fields fields) = kind.Fields (bare_fields fields)
bare_kind (kind.Binary pieces) = kind.Binary (map bare_text pieces)

abbrev pub bare_module : TextModule → TextModule
bare_module m = record { span = m.span; id = bare_id_option m.id; name = bare_name_option m.name; kind = bare_kind m.kind }

abbrev pub bare_opening : ModuleHead → ModuleHead
bare_opening h = record { keyword = h.keyword; id = bare_id_option h.id; name = bare_name_option h.name }

abbrev pub bare_quote : Quote → Quote
bare_quote q = record { span = q.span; bytes = bare_text q.bytes }

-- '(' 'module': its value is the position of the keyword
abbrev pub module_keyword : Toks → Parse Span
module_keyword toks = form key.Module toks >>= λ t. Some (position (after toks), t)

-- '(' 'module' id?, or nothing (text format: modules): its value is the position of the keyword if it is there, the id and the
-- name annotation
abbrev pub opening : Toks → Parse ModuleHead
opening toks = elim (module_keyword toks) [
  | Some k ↦ optional id k.1 >>= λ x. name_annotation x.1 >>= λ n. Some (record { keyword = Some k.0; id = x.0; name = n.0 }, n.1)
  | None ↦ Some (record { keyword = None; id = None; name = None }, toks)
]

-- the end of the tokens
abbrev pub taken_in : List Placed → Toks → Option Toks
taken_in [] toks = Some toks
taken_in (p ∷ ps) toks = None

abbrev pub all_taken : Toks → Option Toks
all_taken toks = taken_in toks.left toks

-- the ')' of a module in parentheses, and the end of the tokens
abbrev pub module_end : Bool → Toks → Option Toks
module_end is_written toks = elim is_written [ true ↦ rparen toks >>= λ rest. all_taken rest | false ↦ all_taken toks ]

-- the fields after the opening of a module, to the end of the tokens
abbrev pub fields_to_end : Bool → Toks → Option (List ModuleField)
fields_to_end is_written toks = modulefields toks >>= λ fs. module_end is_written fs.1 >>= λ rest. Some fs.0

-- A field is a start function.
abbrev pub is_start : ModuleField → Bool
is_start (field.Start x) = true
is_start f = false

-- No field is a start function.
abbrev pub has_no_start : List ModuleField → Bool
has_no_start [] = true
has_no_start (f ∷ fs) = not (is_start f) && has_no_start fs

-- At most one field is a start function, as modules may only be composed if one of them has none (text format: modules). So
-- `(start 0) (start 0)` is no module.
abbrev pub has_one_start : List ModuleField → Bool
has_one_start [] = true
has_one_start (f ∷ fs) = elim (is_start f) [ true ↦ has_no_start fs | false ↦ has_one_start fs ]

abbrev pub if_one_start : List ModuleField → Option (List ModuleField)
if_one_start fs = elim (has_one_start fs) [ true ↦ Some fs | false ↦ None ]

-- the fields of a module after its opening
abbrev pub rest_of_fields : Bool → Toks → Option (List ModuleField)
rest_of_fields is_written toks = fields_to_end is_written toks >>= if_one_start

-- the tokens that are left, if a condition holds
abbrev pub where_it_holds : Bool → Toks → Option Toks
where_it_holds holds toks = elim holds [ true ↦ Some toks | false ↦ None ]

-- m ::= '(' 'module' id? modulefield* ')', or modulefield* alone (text format: modules): its value is the fields
abbrev pub fields_of_module : Toks → Option (List ModuleField)
fields_of_module toks = opening toks >>= λ o. rest_of_fields (is_some o.0.keyword) o.1

-- 'binary' string*: its value is the bytes of a binary module, in pieces
abbrev pub pieces_of : Toks → Option (List (Bor (List ℕ)))
pieces_of toks = strings (after toks) >>= λ ps. module_end true ps.1 >>= λ rest. Some ps.0

-- a string with its position
abbrev pub quote : Toks → Parse Quote
quote toks = string toks >>= λ b. Some (record { span = position toks; bytes = b.0 }, b.1)

abbrev pub quotes : Toks → Parse (List Quote)
quotes toks = many goes_on quote (count toks) toks

-- 'quote' string*: its value is the strings that make the text of a module
abbrev pub quotes_of : Toks → Option (List Quote)
quotes_of toks = quotes (after toks) >>= λ qs. module_end true qs.1 >>= λ rest. Some qs.0

-- the text that strings make, one after another
abbrev pub text_in : List Quote → List ℕ
text_in qs = flat_map (λ q. q.bytes.now) qs

-- so many places, or else a place so many times
abbrev pub exact : ℕ → ℕ → List ℕ → List ℕ
exact count at places = elim (length places == count) [ true ↦ places | false ↦ replicate count at ]

-- The offset in the source of each byte of a string. The bytes of an escape are at its backslash. Without its source, as after a change
-- of the tokens, a string has its own offset for all its bytes.
abbrev pub source_of : List ℕ → Quote → List ℕ
source_of source q = exact (length q.bytes.now) q.span.offset (string_places (length q.bytes.now) q.span.offset (drop q.span.offset source))

-- The offset in the source of each byte of this text. Of the strings "(a" at 14 and "b)" at 19, the bytes are at 15, 16, 20 and 21.
abbrev pub sources : List ℕ → List Quote → List ℕ
sources source qs = flat_map (source_of source) qs

-- the position of the byte of a number; `first` if there is none
abbrev pub place_of : Span → List ℕ → ℕ → Span
place_of first places n = elim (slice_get places n) [ Some at ↦ record { offset = at } | None ↦ first ]

-- a token of this text, at the position of its first byte
abbrev pub put_in : Span → List ℕ → Placed → Placed
put_in first places p = record { token = p.token; span = place_of first places p.span.offset }

-- Tokens of which none is taken. `end` is the position after the last one.
abbrev pub all_of : List Placed → Span → Toks
all_of found end = record { before = position_in found end; left = found; end = end }

-- tokens of the code, without addresses
abbrev pub all_bare : List Placed → Span → Toks
all_bare found end = all_of (map bare_placed found) end

-- what a module contains, by the keyword after its opening
pub data Contents : Type 0 where
  Fields : Contents
  Binary : Contents
  Quotes : Contents

abbrev pub contents_of : Option Span → Option Key → Contents
contents_of (Some keyword) (Some key.Binary) = Binary
contents_of (Some keyword) (Some key.Quote) = Quotes
contents_of keyword k = Fields

-- the position of the keyword of a module, or the start of the text
abbrev pub module_position : ModuleHead → Span
module_position h = unwrap_or h.keyword text_start

-- a module of fields, and one of pieces, after its opening
abbrev pub fields_module : Span → ModuleHead → Toks → Option TextModule
fields_module span h toks = rest_of_fields (is_some h.keyword) toks >>= λ fs. Some (record { span = span; id = h.id; name = h.name; kind = kind.Fields fs })

abbrev pub binary_module : ModuleHead → Toks → Option TextModule
binary_module h toks = pieces_of toks >>= λ ps. Some (record { span = module_position h; id = h.id; name = h.name; kind = kind.Binary ps })

-- The module of the text in quotes, which is neither binary nor in quotes again. The position is that of the outer module, and so
-- are its id and its name annotation, if it has any.
abbrev pub inner_opening : ModuleHead → ModuleHead → ModuleHead
inner_opening h o = record { keyword = o.keyword; id = option_or h.id o.id; name = option_or h.name o.name }

abbrev pub inner_module : ModuleHead → Toks → Option TextModule
inner_module h toks = opening toks >>= λ o. fields_module (module_position h) (inner_opening h o.0) o.1

-- the tokens of bytes, if the bytes are a text (in UTF-8) and the text has tokens
abbrev pub tokens_if : Bool → List ℕ → Option (List Placed)
tokens_if true text = tokens_at_zero text
tokens_if false text = None

-- The tokens of strings in quotes, each at the position of its first character in the source. `first` is the position of the first
-- string, or of the `)` if there are none.
abbrev pub tokens_in_quotes : List ℕ → Span → List Quote → Option (List Placed)
tokens_in_quotes source first qs = tokens_if (is_utf8 (text_in qs)) (text_in qs) >>= λ found. Some (map (put_in first (sources source qs)) found)

-- the module of strings in quotes, with the opening of the outer one; its end has the position of the first string
abbrev pub module_in_quotes : List ℕ → ModuleHead → Span → List Quote → Option TextModule
module_in_quotes source h first qs = tokens_in_quotes source first qs >>= λ found. inner_module h (all_of found first)

-- a module after its opening, by what it contains
abbrev pub module_as : List ℕ → Contents → ModuleHead → Toks → Option TextModule
module_as source Fields h toks = fields_module (module_position h) h toks
module_as source Binary h toks = binary_module h toks
module_as source Quotes h toks = quotes_of toks >>= λ qs. module_in_quotes source h (position (after toks)) qs

abbrev pub module_after : List ℕ → ModuleHead → Toks → Option TextModule
module_after source h toks = module_as source (contents_of h.keyword (key_of (peek 0 toks))) h toks

-- the module of tokens, with the text from which they come
abbrev pub module_in : List ℕ → Toks → Option TextModule
module_in source toks = opening toks >>= λ o. module_after source o.0 o.1

-- the module of tokens alone: in quotes, each token has the position of the string in which it begins
abbrev pub module_of_tokens : Toks → Option TextModule
module_of_tokens toks = module_in [] toks

-- the module of a text
unfoldable pub module_of : List ℕ → Option TextModule
module_of text = tokens_at_zero text >>= λ found. module_in text (all_of found (record { offset = length text }))

-- The rules read a text as this module, without its addresses.
abbrev pub Denotes : List ℕ → TextModule → Type 0
Denotes text m = module_of text ≡ Some (bare_module m)

-- The rules read a text as no module.
abbrev pub DenotesNothing : List ℕ → Type 0
DenotesNothing text = module_of text ≡ None

abbrev pub is_well_formed_module : TextModule → Bool
is_well_formed_module m = is_well_formed_text m.kind

-- The fields that a rule produces, and a module that a rule produces.
abbrev pub AreFields : Option (List ModuleField) → List ModuleField → Type 0
AreFields rule fields = rule ≡ Some (bare_fields fields)

abbrev pub IsModule : Option TextModule → TextModule → Type 0
IsModule rule m = rule ≡ Some (bare_module m)
