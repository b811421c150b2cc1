-- Texts in JSON: strings, numbers, and the members of an object (RFC 8259).
--
--   the string of `a"b`              "a\u0022b"
--   the member `text` with `a\`      , "text": "a\u005c"
--
-- WorkedJson computes these.
use Rattle.std.specs.Prelude.{ℕ, ◌/◌, ◌%◌, ◌==◌, nat_lt, ◌||◌, Bool, false, List, [], ◌∷◌, ◌++◌, flat_map, codes, decimal, if◌then◌else◌, string_bytes}
use Rattle.std.specs.Fmt.{digit_glyph}
use Rattle.wast_script_json.specs.declared.json.Json.{Json}

-- what was written so far
abbrev pub written : Json → List ℕ
written json = string_bytes json.text

-- whether a byte of a string is an escape: those of control characters, quotes and backslashes are
abbrev pub is_escaped : ℕ → Bool
is_escaped byte = nat_lt byte 32 || byte == 34 || byte == 92

-- an escape: `\u`, and four hexadecimal digits, of which the first two are zeros
abbrev pub escape : ℕ → List ℕ
escape byte = codes "\\u00" ++ digit_glyph false (byte / 16) ∷ digit_glyph false (byte % 16) ∷ []

-- a byte of a string
abbrev pub shown : ℕ → List ℕ
shown byte = if is_escaped byte then escape byte else byte ∷ []

-- the bytes of a string between its quotes
unfoldable pub escaped : List ℕ → List ℕ
escaped text = flat_map shown text

-- a string
unfoldable pub string : List ℕ → List ℕ
string text = 34 ∷ escaped text ++ 34 ∷ []

-- an id as a string, with its `$`
unfoldable pub id_string : List ℕ → List ℕ
id_string name = codes "\"$" ++ escaped name ++ 34 ∷ []

-- a number as a string of its decimal digits
unfoldable pub digit_string : ℕ → List ℕ
digit_string n = 34 ∷ decimal n ++ 34 ∷ []

-- the key of one more member of an object
unfoldable pub key : List ℕ → List ℕ
key name = codes ", \"" ++ name ++ codes "\": "

-- one more member of an object, a string
unfoldable pub member : List ℕ → List ℕ → List ℕ
member name value = key name ++ string value
