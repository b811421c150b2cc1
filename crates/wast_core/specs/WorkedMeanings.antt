-- Example modules and what they mean, as the prover computes it. They hold for texts at any addresses.
use Rattle.std.specs.Prelude.{◌≡◌, ℕ, ◌+◌, List, [], ◌∷◌, ◌++◌, Some, None, true, codes, replicate}
use Rattle.std.specs.List.{flat_map}
use Rattle.wast_tree_nodes.specs.WellFormed.{is_well_formed}
use Rattle.wasm_out.specs.WorkedBytes as out
use Rattle.wasm_out.specs.Parts.{part}
use Rattle.wasm_out.specs.Reads.{header, Reads}
use Rattle.wast_tree_nodes.specs.WorkedModules.{Address, text, id_at, by_number, plain_type, plain_func, plain_export, func_field, row27}
use Rattle.wast_expand_keys.specs.WorkedExpansions.{func_at, row2, row8_with}
use Rattle.wast_core.specs.Bounded.{IsBounded}
use Rattle.wast_core.specs.Meaning.{meaning}
use Rattle.wast_core.specs.Tree.{ModuleField}
use Rattle.wast_core.specs.Tree.field

-- `(module)`: it is bounded, and read from the header alone.
abbrev pub Row1 : Type 0
Row1 = IsBounded 1 None [] × (header ++ flat_map part (meaning None []) ≡ header)

-- `(module (type $t (func)) (func $f (type $t) call $f) (export "a" (func $f)))`: it is well formed and bounded, and
-- read from the bytes of row 27.
abbrev pub Row27 : Type 0
Row27 = (a b c d e f : Address) →
    let fields = row27 a b c d e f in
    (is_well_formed fields ≡ true)
    × (meaning None fields ≡ out.worked_parts)
    × (header ++ flat_map part (meaning None fields) ≡ out.worked_bytes)
    × IsBounded 1 None fields
    × Reads out.worked_bytes (meaning None fields)

-- The fields are well formed, and these are their bytes after the header.
abbrev pub HasBytes : List ModuleField → List ℕ → Type 0
HasBytes fields bytes = (is_well_formed fields ≡ true) × (flat_map part (meaning None fields) ≡ bytes)

-- The type section with one type `(func)`.
abbrev pub one_type : List ℕ
one_type = 0x01 ∷ 0x04 ∷ 0x01 ∷ 0x60 ∷ 0x00 ∷ 0x00 ∷ []

-- The function section with one function of type 0.
abbrev pub one_func : List ℕ
one_func = 0x03 ∷ 0x02 ∷ 0x01 ∷ 0x00 ∷ []

-- The code section with one empty body.
abbrev pub one_body : List ℕ
one_body = 0x0a ∷ 0x04 ∷ 0x01 ∷ 0x02 ∷ 0x00 ∷ 0x0b ∷ []

-- The name section with one function of this index, whose name is this letter.
abbrev pub one_name : ℕ → ℕ → List ℕ
one_name index letter = 0x00 ∷ 0x0b ∷ 0x04 ∷ 0x6e ∷ 0x61 ∷ 0x6d ∷ 0x65 ∷ 0x01 ∷ 0x04 ∷ 0x01 ∷ index ∷ 0x01 ∷ letter ∷ []

-- `(module (func))`: its type is implicit, and its generated id does not occur in the bytes.
abbrev pub Row2 : Type 0
Row2 = HasBytes row2 (one_type ++ (one_func ++ one_body))

-- `(module (rec (type (func))) (func))`: the group is one entry and its member type 0. The implicit type is type 1.
abbrev pub Row8 : Type 0
Row8 =
    let two_entries = 0x01 ∷ 0x09 ∷ 0x02 ∷ 0x4e ∷ 0x01 ∷ 0x60 ∷ 0x00 ∷ 0x00 ∷ 0x60 ∷ 0x00 ∷ 0x00 ∷ [] in
    HasBytes (row8_with None) (two_entries ++ (0x03 ∷ 0x02 ∷ 0x01 ∷ 0x01 ∷ one_body))

-- `(module (func (type 5)))`: a number is not changed, whatever it refers to.
abbrev pub Row24 : Type 0
Row24 = HasBytes (func_at 8 (Some (by_number 5 20)) None ∷ []) (0x03 ∷ 0x02 ∷ 0x01 ∷ 0x05 ∷ one_body)

-- `(type (func))` at 8.
abbrev pub first_type : ModuleField
first_type = field.Ty (plain_type None 8)

-- `(func (type 0))` at 22.
abbrev pub first_func : ModuleField
first_func = field.Func (plain_func None 22 (by_number 0 34) [])

-- `(func $f (@name "g") (type 0))` at 22.
abbrev pub annotated_func : (a b : Address) → ModuleField
annotated_func a b = field.Func (record (plain_func (Some (id_at a (codes "f") 28)) 22 (by_number 0 49) []) { name = Some (record { name = text b (codes "g") }) })

-- `(export "a..a" (func 0))` at 38, with n letters.
abbrev pub long_export : Address → ℕ → ModuleField
long_export a n = field.Export (record (plain_export a 38 (by_number 0 (n + 55))) { name = text a (replicate n 0x61) })

-- `(module (type (func)) (func $f (@name "g") (type 0)))`: the name section has the annotation, and not the id.
abbrev pub AnnotatedFunction : Type 0
AnnotatedFunction = (a b : Address) →
    HasBytes (first_type ∷ annotated_func a b ∷ []) (one_type ++ (one_func ++ (one_body ++ one_name 0x00 0x67)))

-- `(module (type (func)) (func (type 0)) (func $f (type 0)))`: the name section has the name of function 1, and none of
-- function 0.
abbrev pub SecondNamed : Type 0
SecondNamed = (a : Address) →
    let two_funcs = 0x03 ∷ 0x03 ∷ 0x02 ∷ 0x00 ∷ 0x00 ∷ [] in
    let two_bodies = 0x0a ∷ 0x07 ∷ 0x02 ∷ 0x02 ∷ 0x00 ∷ 0x0b ∷ 0x02 ∷ 0x00 ∷ 0x0b ∷ [] in
    HasBytes (first_type ∷ first_func ∷ func_field a 38 (by_number 0 53) [] ∷ []) (one_type ++ (two_funcs ++ (two_bodies ++ one_name 0x01 0x66)))

-- `(module (type (func)) (func (type 0)) (export "a..a" (func 0)))`, with 123 and with 124 letters: the content of the
-- export section is 127 and 128 bytes, so its length takes one byte and two.
abbrev pub LongSection : Type 0
LongSection = (a : Address) →
    HasBytes (first_type ∷ first_func ∷ long_export a 123 ∷ []) (one_type ++ (one_func ++ 0x07 ∷ 0x7f ∷ 0x01 ∷ 0x7b ∷ (replicate 123 0x61 ++ 0x00 ∷ 0x00 ∷ one_body)))
    × HasBytes (first_type ∷ first_func ∷ long_export a 124 ∷ []) (one_type ++ (one_func ++ 0x07 ∷ 0x80 ∷ 0x01 ∷ 0x01 ∷ 0x7c ∷ (replicate 124 0x61 ++ 0x00 ∷ 0x00 ∷ one_body)))
