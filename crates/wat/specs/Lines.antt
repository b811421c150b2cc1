-- The lines of `wat --names`: of each id its index space, its name as in a text, and its index.
--
--   (module (func $f) (func $"a b"))      func $f 0, and func $"a b" 1
use Rattle.std.specs.Prelude.{ℕ, ◌==◌, nat_lt, ◌&&◌, ◌||◌, not, Bool, List, [], ◌∷◌, ◌++◌, flat_map, chars, codes, decimal, encode_utf8_all, if◌then◌else◌}
use Rattle.std.specs.Char.Escape.{escape_default}
use Rattle.std.specs.List.{list_all}
use Rattle.wast_base.specs.Ids.{name_of, text_of}
use Rattle.wast_base.specs.Spaces.{word_of}
use Rattle.wat_bytes.specs.declared.names.Denoted.{Denoted}

-- whether a byte ends an id without quotes: one of `"(),;[]{}`
abbrev pub is_reserved : ℕ → Bool
is_reserved byte = byte == 34 || byte == 40 || byte == 41 || byte == 44 || byte == 59 || byte == 91 || byte == 93 || byte == 123 || byte == 125

-- whether a byte can be in an id without quotes (text format: identifiers)
abbrev pub is_id_byte : ℕ → Bool
is_id_byte byte = (nat_lt 32 byte && nat_lt byte 127) && not (is_reserved byte)

-- a name in quotes: each character, or its escape
unfoldable pub escaped : List ℕ → List ℕ
escaped name = encode_utf8_all (flat_map escape_default (chars name))

-- a name after its `$`
abbrev pub shown : List ℕ → List ℕ
shown name = if list_all is_id_byte name then name else 34 ∷ escaped name ++ 34 ∷ []

-- the line of an id
abbrev pub line_of : Denoted → List ℕ
line_of d = word_of d.space ++ codes " $" ++ shown (text_of (name_of d.id)) ++ 32 ∷ decimal d.number ++ 10 ∷ []

-- the lines of a list of ids
abbrev pub lines_of : List Denoted → List ℕ
lines_of all = flat_map line_of all
