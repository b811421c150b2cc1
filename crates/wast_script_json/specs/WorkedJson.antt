-- Strings, numbers and members in JSON, as the prover computes them.
use Rattle.std.specs.Prelude.{◌≡◌, [], ◌∷◌, ◌++◌, codes, decimal}
use Rattle.wast_script_json.specs.Json.{string, id_string, digit_string, key, member}

-- A quote, a backslash and a line feed are escapes. Other characters, as `é`, are as they are.
abbrev pub WorkedStrings : Type 0
WorkedStrings = (string (codes "a\"b") ≡ codes "\"a\\u0022b\"")
    × (string (codes "\\\n") ≡ codes "\"\\u005c\\u000a\"")
    × (string (0xc3 ∷ 0xa9 ∷ []) ≡ codes "\"" ++ 0xc3 ∷ 0xa9 ∷ 34 ∷ [])
    × (id_string (codes "f\"") ≡ codes "\"$f\\u0022\"")

-- A number is in decimal digits. A key has a comma before it and a colon after it.
abbrev pub WorkedMembers : Type 0
WorkedMembers = (decimal 1024 ≡ codes "1024") × (digit_string 7 ≡ codes "\"7\"")
    × (key (codes "line") ≡ codes ", \"line\": ")
    × (member (codes "text") (codes "a\\") ≡ codes ", \"text\": \"a\\u005c\"")
