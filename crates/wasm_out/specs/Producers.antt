-- The producers section, a custom section whose fields are lists of names with versions (tool conventions: producers
-- section).
--
-- For example, (language "R" "1") is 01 08 6c 61 6e 67 75 61 67 65 01 01 52 01 31 after the name of the section.
use Rattle.std.specs.Prelude.{ℕ, List, ◌++◌, codes}
use Rattle.wasm_ops.specs.Spelling.{Encoding, named, seq, list_of, name}

-- A value: its name and its version.
abbrev pub producer_value : List ℕ × List ℕ → Encoding
producer_value v = seq (named v.0) (named v.1)

-- A field: its name and its values.
abbrev pub producer_field : List ℕ × List (List ℕ × List ℕ) → Encoding
producer_field f = seq (named f.0) (list_of producer_value f.1)

-- The fields, after the name of the section.
abbrev pub producers : List (List ℕ × List (List ℕ × List ℕ)) → Encoding
producers fields = list_of producer_field fields

-- The payload of the section, from the bytes of its fields.
abbrev pub producers_payload : List ℕ → List ℕ
producers_payload fields = name (codes "producers") ++ fields
