-- Example modules and their renamed forms, as bytes that the prover computes. They hold for texts at any addresses.
use Rattle.std.specs.Prelude.{◌≡◌, ℕ, List, [], ◌∷◌, ◌++◌, None, codes}
use Rattle.wasm_out.specs.WorkedBytes.{worked_bytes}
use Rattle.wast_tree_nodes.specs.WorkedModules.{Address, by_id, row27}
use Rattle.wast_resolve_rules.specs.WorkedBodies.{catching}
use Rattle.wast_resolve_rules.specs.WorkedFields.{reading}
use Rattle.wast_resolve_laws.specs.Renaming.{renamed_fields}
use Rattle.wast_resolve_laws.specs.WorkedRenaming.{prefixing}
use Rattle.wast_core.specs.Front.{front_bytes, names_bytes}
use Rattle.wast_core.specs.Tree.{ModuleField}

-- With `r` before each name, the bytes before the name section are the same, and these are the subsections of the
-- names.
abbrev pub HasOtherNames : List ModuleField → List ℕ → Type 0
HasOtherNames fields names =
    let others = renamed_fields prefixing fields in
    (front_bytes others ≡ front_bytes fields) × (names_bytes None others ≡ names)

-- `(module (type $t (func)) (func $f (type $t) call $f) (export "a" (func $f)))`: the bytes before its name section,
-- and the name section. `rf` is a function, and `rt` a type.
abbrev pub Row27 : Type 0
Row27 = (a b c d e f : Address) →
    let fields = row27 a b c d e f in
    let names = 0x00 ∷ 0x13 ∷ 0x04 ∷ 0x6e ∷ 0x61 ∷ 0x6d ∷ 0x65 ∷ 0x01 ∷ 0x05 ∷ 0x01 ∷ 0x00 ∷ 0x02 ∷ 0x72 ∷ 0x66 ∷ 0x04 ∷ 0x05 ∷ 0x01 ∷ 0x00 ∷ 0x02 ∷ 0x72 ∷ 0x74 ∷ [] in
    (front_bytes fields ++ names_bytes None fields ≡ worked_bytes) × HasOtherNames fields names

-- `(module (tag $e) (func block $h try_table (catch $e $h) end end))`: `rh` is a label, and `re` a tag.
abbrev pub Row9 : Type 0
Row9 = (a b c d : Address) →
    let names = 0x00 ∷ 0x15 ∷ 0x04 ∷ 0x6e ∷ 0x61 ∷ 0x6d ∷ 0x65 ∷ 0x03 ∷ 0x07 ∷ 0x01 ∷ 0x00 ∷ 0x01 ∷ 0x00 ∷ 0x02 ∷ 0x72 ∷ 0x68 ∷ 0x0b ∷ 0x05 ∷ 0x01 ∷ 0x00 ∷ 0x02 ∷ 0x72 ∷ 0x65 ∷ [] in
    HasOtherNames (catching a b c d) names

-- `(module (type $s (struct (field $y i32))) (func ref.null $s struct.get $s $y drop))`: `rs` is a type, and `ry` its field.
abbrev pub Row48 : Type 0
Row48 = (a b c d e : Address) →
    let names = 0x00 ∷ 0x15 ∷ 0x04 ∷ 0x6e ∷ 0x61 ∷ 0x6d ∷ 0x65 ∷ 0x04 ∷ 0x05 ∷ 0x01 ∷ 0x00 ∷ 0x02 ∷ 0x72 ∷ 0x73 ∷ 0x0a ∷ 0x07 ∷ 0x01 ∷ 0x00 ∷ 0x01 ∷ 0x00 ∷ 0x02 ∷ 0x72 ∷ 0x79 ∷ [] in
    HasOtherNames (reading a b c d (by_id e (codes "y") 74)) names
