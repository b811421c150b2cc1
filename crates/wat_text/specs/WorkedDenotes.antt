-- Texts and their modules, as the definitions compute them. In `codes ".."`, `\"` is a quote of the text, and `\\` a backslash.
use Rattle.std.specs.Prelude.{ℕ, ◌≡◌, List, [], ◌∷◌, Option, Some, None, true, false, codes}
use Rattle.wast_base.specs.Ids.{source_id, text_start}
use Rattle.wast_base.specs.declared.ids.Index.TheVariants as by
use Rattle.wat_tokens.specs.declared.words.Key.TheVariants as key
use Rattle.wat_tokens.specs.declared.tokens.Token.TheVariants as token
use Rattle.wat_syntax.specs.Tree.{Span, Id, ModuleField}
use Rattle.wat_syntax.specs.Tree.field
use Rattle.wat_syntax.specs.Values.{text_of}
use Rattle.wat_syntax.specs.Worked.{the, named, quoted, toks, made}
use Rattle.wat_text.specs.Denotes.{opening, has_no_start, has_one_start, rest_of_fields, quotes, text_in, exact, source_of, sources}
use Rattle.wat_text.specs.Denotes.{place_of, put_in, contents_of, Fields, Binary, Quotes, module_of, Denotes, DenotesNothing}
use Rattle.wat_text.specs.declared.modules.TextKind.TheVariants as kind
use Rattle.wat_text.specs.declared.modules.TextModule.{TextModule}
use Rattle.wat_text.specs.declared.quotes.Quote.{Quote}

-- the position of a byte
abbrev pub at : ℕ → Span
at n = record { offset = n }

-- a string of a text in quotes, at the position of its quote
abbrev pub quote_at : ℕ → List ℕ → Quote
quote_at n bytes = record { span = at n; bytes = text_of bytes }

-- the field `(start 0)`, whose number is at a position
abbrev pub start_at : ℕ → ModuleField
start_at n = field.Start (by.Num 0 (at n))

-- a module of fields without a name annotation
abbrev pub fields_at : Span → Option Id → List ModuleField → TextModule
fields_at span id fields = record { span = span; id = id; name = None; kind = kind.Fields fields }

-- `(start 0)` is a module without an id, and so is an empty text. The position of `(module $m (start 0))` is that of its keyword.
-- `(start` has no `)`, in `(start 0) x` and `(module) (start 0)` tokens are left, and `a[` has no tokens. `(start 0) (start 0)` has two
-- start functions, after the second of which none may come.
abbrev pub Modules : Type 0
Modules = (module_of (codes "(start 0)") ≡ Some (fields_at text_start None (start_at 7 ∷ [])))
    × (module_of [] ≡ Some (fields_at text_start None []))
    × (module_of (codes "(module $m (start 0))") ≡ Some (fields_at (at 1) (Some (source_id (text_of (codes "m")) (at 8))) (start_at 18 ∷ [])))
    × (module_of (codes "(start") ≡ None)
    × (module_of (codes "(start 0) x") ≡ None)
    × (module_of (codes "(module) (start 0)") ≡ None)
    × (module_of (codes "a[") ≡ None)
    × (module_of (codes "(start 0) (start 0)") ≡ None)
    × (has_no_start (start_at 7 ∷ []) ≡ false) × (has_one_start (start_at 7 ∷ []) ≡ true) × (has_one_start (start_at 7 ∷ (start_at 17 ∷ [])) ≡ false)

-- `(module binary "\00asm" "\01")` has two pieces, which are bytes. Without `(module` before it, `binary` is no module; after it come
-- strings alone.
abbrev pub Binaries : Type 0
Binaries = (module_of (codes "(module binary \"\\00asm\" \"\\01\")")
    ≡ Some (record { span = at 1; id = None; name = None; kind = kind.Binary (text_of (0x00 ∷ codes "asm") ∷ (text_of (0x01 ∷ []) ∷ [])) }))
    × (module_of (codes "binary \"\\00asm\"") ≡ None)
    × (module_of (codes "(module binary $m)") ≡ None)

-- `(module quote "(start" " 0)")` has the field of `(start 0)`: the module is at its keyword, and the number at its place in the second
-- string. The id is that after `module`, or else that in quotes. An escape before it counts as long as it is written, as `\n` and
-- `\u{e9}` do, which stands for two bytes; a `0` that an escape writes is at the backslash. Without strings the text in quotes is empty.
-- It has its own parentheses, so the `)` after a string does not end its fields; it is no binary module; and its bytes are UTF-8.
abbrev pub InQuotes : Type 0
InQuotes = (module_of (codes "(module quote \"(start\" \" 0)\")") ≡ Some (fields_at (at 1) None (start_at 25 ∷ [])))
    × (module_of (codes "(module $m quote \"(module $n)\")") ≡ Some (fields_at (at 1) (Some (source_id (text_of (codes "m")) (at 8))) []))
    × (module_of (codes "(module quote \"(module $n)\")") ≡ Some (fields_at (at 1) (Some (source_id (text_of (codes "n")) (at 23))) []))
    × (module_of (codes "(module quote \"(module\\n$n)\")") ≡ Some (fields_at (at 1) (Some (source_id (text_of (codes "n")) (at 24))) []))
    × (module_of (codes "(module quote \"(;\\u{e9};)(start \\30)\")") ≡ Some (fields_at (at 1) None (start_at 32 ∷ [])))
    × (module_of (codes "(module quote)") ≡ Some (fields_at (at 1) None []))
    × (module_of (codes "(module quote \"(start 0\")") ≡ None)
    × (module_of (codes "(module quote \"(module binary)\")") ≡ None)
    × (module_of (codes "(module quote \"\\ff\")") ≡ None)

-- the strings "(a" at 1 and "b)" at 6 of a text
abbrev pub two_quotes : List Quote
two_quotes = quote_at 1 (codes "(a") ∷ (quote_at 6 (codes "b)") ∷ [])

-- Each byte has its place in the text. Without the text it has that of its string. A byte that is not there has the position given. So
-- the token at byte 3 is put at the last character of the second string.
abbrev pub Positions : Type 0
Positions = (text_in two_quotes ≡ codes "(ab)") × (sources (codes "(\"(a\" \"b)\")") two_quotes ≡ 2 ∷ (3 ∷ (7 ∷ (8 ∷ []))))
    × (sources [] two_quotes ≡ 1 ∷ (1 ∷ (6 ∷ (6 ∷ [])))) × (source_of (codes "\"\\tb\"") (quote_at 0 (0x09 ∷ codes "b")) ≡ 1 ∷ (3 ∷ []))
    × (exact 2 5 (6 ∷ (7 ∷ [])) ≡ 6 ∷ (7 ∷ [])) × (exact 2 5 (6 ∷ []) ≡ 5 ∷ (5 ∷ []))
    × (place_of (at 9) (2 ∷ (3 ∷ [])) 1 ≡ at 3) × (place_of (at 9) (2 ∷ (3 ∷ [])) 2 ≡ at 9)
    × (put_in (at 9) (2 ∷ (3 ∷ (7 ∷ (8 ∷ [])))) (record { token = token.Close; span = at 3 }) ≡ record { token = token.Close; span = at 8 })

-- `(module $m` is an opening, and the one token after it is left. Before `(start` the opening is empty, and no token is taken. The words
-- `binary` and `quote` say what a module contains only after `(module`. A module in parentheses ends with `)`, and fields alone with
-- the text.
abbrev pub Openings : Type 0
Openings = (made (opening (toks (token.Open ∷ (the key.Module ∷ (named (codes "m") ∷ (token.Close ∷ []))))))
    ≡ Some (record { keyword = Some (at 1); id = Some (source_id (text_of (codes "m")) (at 2)); name = None }, 1))
    × (made (opening (toks (token.Open ∷ (the key.Start ∷ [])))) ≡ Some (record { keyword = None; id = None; name = None }, 2))
    × (contents_of (Some (at 1)) (Some key.Binary) ≡ Binary) × (contents_of (Some (at 1)) (Some key.Quote) ≡ Quotes) × (contents_of (Some (at 1)) None ≡ Fields)
    × (contents_of None (Some key.Quote) ≡ Fields)
    × (rest_of_fields true (toks (token.Close ∷ [])) ≡ Some []) × (rest_of_fields false (toks []) ≡ Some [])
    × (rest_of_fields false (toks (token.Close ∷ [])) ≡ None) × (rest_of_fields true (toks []) ≡ None)
    × (made (quotes (toks (quoted (codes "a") ∷ (token.Close ∷ [])))) ≡ Some (quote_at 0 (codes "a") ∷ [], 1))

-- `(start 0)` denotes its module, and so does a module with an id at any address. `(start` and `a[` denote nothing.
abbrev pub Denoted : Type 0
Denoted = Denotes (codes "(start 0)") (fields_at text_start None (start_at 7 ∷ []))
    × ((address : ℕ × ℕ) → Denotes (codes "(module $m)") (fields_at (at 1) (Some (source_id (record { ref_ptr = address; now = codes "m" }) (at 8))) []))
    × DenotesNothing (codes "(start") × DenotesNothing (codes "a[")
